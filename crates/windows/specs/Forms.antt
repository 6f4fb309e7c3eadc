-- The forms of a window's contracts: the items that stand at places of a region, and what a window holds.
use Rattle.std.specs.Prelude.{◌≡◌, Bool, List, [], ◌∷◌, ◌++◌, ℕ, ◌+◌, ◌≤◌, length, take, drop, Option, None, Some}
use Rattle.definition.specs.Tools.{Bytes}
use Rattle.definition.specs.Region.{Item, item, head_size, key_limit, item_limit}
use Rattle.definition.specs.Scan.{insert, window_size}
use Rattle.region.specs.Places.{key_at, value_at}
use Rattle.region.specs.declared.Place.{Place}
use Rattle.windows.specs.declared.ScanWindow.{ScanWindow}

-- whether one key comes before another: what the forms are over, so that a scan may go another way
abbrev pub Direction : Type 0
Direction = Bytes → Bytes → Bool

-- ---- places

-- the key and the item whose record stands at a place
abbrev pub place_key : Bytes → Place → Bytes
place_key s p = key_at s p.at p.klen

unfoldable pub place_item : Bytes → Place → Item
place_item s p = item (place_key s p) (value_at s p.at p.klen p.vlen)

-- the record lies inside, and is no longer than an item may be
pub record Held (s : Bytes) (p : Place) : Type 0 where
  pub within : p.at + head_size + p.klen + p.vlen ≤ length s
  pub short : p.klen ≤ key_limit
  pub small : 1 + p.klen + p.vlen ≤ item_limit

unfoldable pub place_items : Bytes → List Place → List Item
place_items s [] = []
place_items s (p ∷ ps) = place_item s p ∷ place_items s ps

abbrev pub AllHeld : Bytes → List Place → Type 0
AllHeld s [] = Unit {0}
AllHeld s (p ∷ ps) = Held s p × AllHeld s ps

-- the last key written
unfoldable pub last_key : Bytes → Option Place → Option Bytes
last_key s (Some p) = Some (place_key s p)
last_key s None = None

abbrev pub LastHeld : Bytes → Option Place → Type 0
LastHeld s (Some p) = Held s p
LastHeld s None = Unit {0}

-- l stands for the last key k, and its record lies inside
pub record Lasts (s : Bytes) (k : Option Bytes) (l : Option Place) : Type 0 where
  pub held : LastHeld s l
  pub is : last_key s l ≡ k

-- ---- windows

-- the places of a window that are in use
abbrev pub filled : ScanWindow → List Place
filled w = take w.len w.places

unfoldable pub window_items : Bytes → ScanWindow → List Item
window_items s w = place_items s (filled w)

-- there are eight places, and at those in use records lie inside
pub record Sane (s : Bytes) (w : ScanWindow) : Type 0 where
  pub eight : length w.places ≡ window_size
  pub most : w.len ≤ window_size
  pub held : AllHeld s (filled w)

-- the window w holds these items
pub record Holds (s : Bytes) (kept : List Item) (w : ScanWindow) : Type 0 where
  pub sane : Sane s w
  pub is : window_items s w ≡ kept

-- a list with one more, at an index
abbrev pub put : {A : Type 0} → ℕ → A → List A → List A
put n x l = take n l ++ (x ∷ drop n l)

-- n is where an item with this key is inserted
pub record Parts (before : Direction) (key : Bytes) (kept : List Item) (n : ℕ) : Type 0 where
  pub within : n ≤ length kept
  pub at : (v : Bytes) → insert before (item key v) kept ≡ put n (item key v) kept
