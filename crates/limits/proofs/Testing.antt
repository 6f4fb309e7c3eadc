-- What the returns of the tests say.
use mathlib.Core.Path.{◌≡◌, refl, sym, ap, ap₂, ◌∙◌}
use mathlib.Core.Logic.{◌⊎◌, inl, inr}
use mathlib.Core.Bool.{Bool, true, false, not}
use Rattle.std.specs.Prelude.{Option, Result, Ok, Err}
use Prim.Native.Nat.{ℕ, ◌+◌, ◌%◌, ◌<◌, ◌≤◌, min}
use native.Mathlib.Omega.{arith}
use lib.ListN.{length}
use lib.Dec.{eqb, ltb}
use borrow.Author.Tests.{lt-ltb, le-ltb, le-leb, lt-leb, eq-eqb, ne_eqb}
use Rattle.definition.specs.Tools.{Bytes, pick}
use Rattle.definition.specs.Codec.{long_key, long_value, key_too_long, value_too_long, reserved}
use Rattle.definition.specs.Region.{allowed}
use Rattle.definition.specs.Numbers.{number}
use Rattle.definition.specs.Calls.{put_fault, region_fault, unstorable, is_debris, is_full}
use Rattle.definition.proofs.Choices.{picked, passed, pick_yes, pick_no}
use Rattle.definition.proofs.Records.{allowed_yes}
use Rattle.definition.specs.declared.Fault.{Fault}
use Rattle.definition.specs.declared.Fault.TheVariants.{ReservedKey, BadRegion, FullStorage}
use Rattle.definition.specs.declared.RegionKind.TheVariants.{TooHigh, StartNotPageAligned, EndNotPageAligned, TooSmall}
use Rattle.definition.specs.declared.Health.{Health}
use Rattle.definition.specs.declared.Health.TheVariants.{Clean, Debris, Pending}
use Rattle.codec.specs.Forms.{checked_of, Checks}
use Rattle.codec.proofs.Laws.{fine_bounds}
use Rattle.limits.specs.Forms.{retried}

-- ---- the tests of a put

module _ (k v : Bytes) where
  pub put_value : 256 < length v → Checks (put_fault k v) k v (Err (value_too_long v))
  unfolding put_fault checked_of long_value
  put_value h = record { is = ap checked_of (picked _ _ _ (lt-ltb _ _ h) refl); bounds = tt }

  module _ (h1 : length v ≤ 256) {r : Bool} (er : r ≡ reserved k) where
    pub put_reserved : r ≡ true → Checks (put_fault k v) k v (Err ReservedKey)
    unfolding put_fault checked_of long_value
    put_reserved h = record { is = ap checked_of (passed _ _ _ (le-ltb _ _ h1) (picked _ _ _ (sym er ∙ h) refl)); bounds = tt }

    module _ (h2 : r ≡ false) where
      pub put_key : 96 < length k → Checks (put_fault k v) k v (Err (key_too_long k))
      unfolding put_fault checked_of long_value long_key
      put_key h =
          record { is = ap checked_of (passed _ _ _ (le-ltb _ _ h1) (passed _ _ _ (sym er ∙ h2) (picked _ _ _ (lt-ltb _ _ h) refl))); bounds = tt }

      pub put_fine : length k ≤ 96 → Checks (put_fault k v) k v (Ok tt)
      unfolding put_fault checked_of long_value long_key
      put_fine h =
          record { is = ap checked_of (passed _ _ _ (le-ltb _ _ h1) (passed _ _ _ (sym er ∙ h2) (passed _ _ _ (le-ltb _ _ h) refl))); bounds = (h, h1) }

-- what passes the tests may be stored
pub fine_allowed : {tests : Option Fault} {k v : Bytes} {r : Result (Unit {0}) Fault} {x : Unit {0}} → Checks tests k v r → r ≡ Ok x → allowed (length k) (length v) ≡ true
fine_allowed {k = k} {v = v} c q = let b = fine_bounds c q in allowed_yes (length k) (length v) b.0 (omega arith)

-- ---- a second try

full_alone : (f : Fault) → (f ≡ FullStorage → ⊥) → is_full f ≡ false
unfolding is_full number
full_alone FullStorage n = absurd (n refl)
full_alone f n = refl

pub retry_full : {h : Health} {f : Fault} → h ≡ Debris → f ≡ FullStorage → true ≡ retried h f
unfolding retried pick is_debris is_full number
retry_full e q = sym (ap₂ retried e q)

pub retry_other : {h : Health} {f : Fault} → h ≡ Debris → (f ≡ FullStorage → ⊥) → false ≡ retried h f
unfolding retried pick is_debris
retry_other {h} {f} e n = sym (ap (λ h. retried h f) e ∙ full_alone f n)

pub retry_none : {h : Health} (f : Fault) → (h ≡ Clean) ⊎ (h ≡ Pending) → false ≡ retried h f
unfolding retried pick is_debris
retry_none f (inl e) = sym (ap (λ h. retried h f) e)
retry_none f (inr e) = sym (ap (λ h. retried h f) e)

-- ---- keys that cannot be there

module _ (k : Bytes) {r : Bool} (er : r ≡ reserved k) where
  pub unstorable_reserved : r ≡ true → true ≡ unstorable k
  unfolding unstorable
  unstorable_reserved h = sym (pick_yes _ _ (sym er ∙ h))

  pub unstorable_long : r ≡ false → ltb 96 (length k) ≡ unstorable k
  unfolding unstorable long_key
  unstorable_long h = sym (pick_no _ _ (sym er ∙ h))

-- ---- the tests of a region

not_zero : (n : ℕ) → (n ≡ 0 → ⊥) → not (eqb n 0) ≡ true
not_zero n h = ap not (ne_eqb _ _ h)

is_zero : (n : ℕ) → n ≡ 0 → not (eqb n 0) ≡ false
is_zero n h = ap not (eq-eqb _ _ h)

-- The end as the code has it: a sum beyond 64 bits is the last number that they hold.
module _ (start len end : ℕ) (e : end ≡ min (start + len) 18446744073709551615) where
  pub region_high : 4294967296 ≤ end → Err (BadRegion TooHigh) ≡ checked_of (region_fault start len)
  unfolding region_fault checked_of
  region_high h = let z : 4294967296 ≤ start + len = omega arith in ap checked_of (picked _ _ _ (le-leb _ _ z) refl)

  module _ (h1 : end < 4294967296) where
    whole : end ≡ start + len
    whole = omega arith

    low : start + len < 4294967296
    low = omega arith

    pub region_start : (start % 4096 ≡ 0 → ⊥) → Err (BadRegion StartNotPageAligned) ≡ checked_of (region_fault start len)
    unfolding region_fault checked_of
    region_start h = ap checked_of (passed _ _ _ (lt-leb _ _ low) (picked _ _ _ (not_zero _ h) refl))

    module _ (h2 : start % 4096 ≡ 0) where
      pub region_end : (end % 4096 ≡ 0 → ⊥) → Err (BadRegion EndNotPageAligned) ≡ checked_of (region_fault start len)
      unfolding region_fault checked_of
      region_end h =
          let z : (start + len) % 4096 ≡ 0 → ⊥ = λ q. h (ap (λ n. n % 4096) whole ∙ q) in
          ap checked_of (passed _ _ _ (lt-leb _ _ low) (passed _ _ _ (is_zero _ h2) (picked _ _ _ (not_zero _ z) refl)))

      module _ (h3 : end % 4096 ≡ 0) where
        even : (start + len) % 4096 ≡ 0
        even = ap (λ n. n % 4096) (sym whole) ∙ h3

        pub region_small : len < 8192 → Err (BadRegion TooSmall) ≡ checked_of (region_fault start len)
        unfolding region_fault checked_of
        region_small h =
            ap checked_of (passed _ _ _ (lt-leb _ _ low) (passed _ _ _ (is_zero _ h2) (passed _ _ _ (is_zero _ even) (picked _ _ _ (lt-ltb _ _ h) refl))))

        pub region_fine : 8192 ≤ len → Ok tt ≡ checked_of (region_fault start len)
        unfolding region_fault checked_of
        region_fine h =
            ap checked_of (passed _ _ _ (lt-leb _ _ low) (passed _ _ _ (is_zero _ h2) (passed _ _ _ (is_zero _ even) (passed _ _ _ (le-ltb _ _ h) refl))))

-- what each return of `check_put` says
pub ruleset put_tests = (put_value, put_reserved, put_key, put_fine)

-- what each return of `retries` says
pub ruleset retry_tests = (retry_full, retry_other, retry_none)

-- what each return of `check_region` says
pub ruleset region_tests = (region_high, region_start, region_end, region_small, region_fine)
