-- The image test's walks: that a region is whole, and that no key of a class occurs twice.
use Rattle.std.specs.Prelude.{◌≡◌, Bool, true, false, List, [], ◌∷◌, ℕ, length}
use Rattle.definition.specs.Tools.{Bytes}
use Rattle.definition.specs.Region.{Item, has, distinct, items}
use Rattle.prints.specs.Prints.{hash_of, class_of, noted}

-- ---- the items that a walk has passed, the last one first

-- they, and those that are left, in their order again
unfoldable pub onto : List Item → List Item → List Item
onto [] is = is
onto (i ∷ d) is = onto d (i ∷ is)

abbrev pub back : List Item → List Item
back is = onto is []

-- no key of class c, of n, occurs twice
abbrev pub NewIn : ℕ → ℕ → List Item → Type 0
NewIn c n [] = Unit {0}
NewIn c n (i ∷ d) = (class_of n (hash_of i.key) ≡ c → has i.key d ≡ false) × NewIn c n d

-- a key k is tried against the items before it, b, and the table t, which leaves u
pub record Tried (b k t : Bytes) (c n : ℕ) (u : Bytes) (r : Bool) : Type 0 where
  pub long : length u ≡ length t
  pub kept : (g : ℕ) → noted t g ≡ true → noted u g ≡ true
  pub held : class_of n (hash_of k) ≡ c → noted u (hash_of k) ≡ true
  pub new : r ≡ true → class_of n (hash_of k) ≡ c → noted t (hash_of k) ≡ true → has k (items b) ≡ false
  pub old : r ≡ false → has k (items b) ≡ true

-- a walk for the class c says r
pub record DistinctIn (s : Bytes) (c n : ℕ) (r : Bool) : Type 0 where
  pub new : r ≡ true → NewIn c n (back (items s))
  pub old : r ≡ false → distinct (items s) ≡ false
