-- "A Finished scan of m matches among t records makes (m/8 rounded down + 1) · (t + 2) item calls, those of a
-- recovery before it not counted": of the public call where no recovery comes before. The count is a 64-bit word; on
-- a region below 2^32 bytes no word is too narrow for it.
use mathlib.Core.Path.{◌≡◌, refl, ap, ◌∙◌}
use mathlib.Core.Bool.{Bool, true, false}
use mathlib.Core.List.{List, [], ◌∷◌}
use Prim.Native.Nat.{ℕ, ◌+◌, ◌*◌, ◌/◌, ◌%◌, ◌≤◌, ◌<◌}
use native.Mathlib.Nat.{zero-add, mul-le-mul}
use native.Mathlib.Omega.{arith}
use lib.ListN.{length}
use Rattle.std.specs.Prelude.{Ok, Err}
use Rattle.definition.specs.Tools.{Bytes, pick}
use Rattle.definition.specs.Region.{Item, good, items, used}
use Rattle.definition.specs.Script.{word}
use Rattle.definition.specs.Program.{World, world, Result, ok, bad, exec, flat}
use Rattle.definition.specs.Calls.{Said, is_pending, gate}
use Rattle.definition.specs.Scan.{rising, matches, window_size, scan_from, scan}
use Rattle.definition.specs.Public.{begin, outcome_of, public, scan_prefix}
use Rattle.definition.specs.declared.State.{State}
use Rattle.definition.specs.declared.Fault.{Fault}
use Rattle.definition.specs.declared.ScanEnd.TheVariants.{Finished}
use Rattle.definition.specs.declared.Scanned.{Scanned}
use Rattle.definition.proofs.Choices.{bool, pick_yes, pick_no}
use Rattle.definition.proofs.Image.{good_parts, used_fits}
use Rattle.definition.proofs.Records.{item_holds}
use Rattle.definition.proofs.Windows.{sift, rising_strict}
use Rattle.definition.proofs.ScanRuns.{ticks_word, scan_finished}

refused_not : {f : Fault} → Err f ≡ Ok Finished → ⊥
refused_not e = let z : ◌≡◌ {A = ℕ} 0 1 = cc in omega arith

-- t records, of which m match
abbrev pub record_count : Bytes → ℕ
record_count region = length (items region)

abbrev pub match_count : Bytes → Bytes → ℕ
match_count prefix region = length (sift (matches prefix) (items region))

abbrev pub formula : Bytes → Bytes → ℕ
formula prefix region = (match_count prefix region / window_size + 1) * (record_count region + 2)

abbrev refuse : Fault → Scanned
refuse e = record { end = Err e; count = 0; length = 0 }

module _ (region script : Bytes) (st : State) (prefix : Bytes) (most : ℕ) (out : Bytes) where
  -- of what the passes come to: they end as `ok` always, and a fault is no Finished
  passes_counted : good region ≡ true → (r : Result (World Bytes) (Said Scanned))
      → r ≡ exec (scan_from rising flat prefix most (length out) st.health) (world region script (begin st))
      → (outcome_of refuse st.health out r).answer.end ≡ Ok Finished
      → (outcome_of refuse st.health out r).calls ≡ formula prefix region % word
  unfolding outcome_of
  passes_counted g (ok a w) e f =
      let n : ℕ = formula prefix region in
      (scan_finished flat rising rising_strict prefix most (length out) st.health
      (good_parts region g).1 e f).counts.calls
      ∙ ticks_word n 0 (omega arith) ∙ ap (λ (x : ℕ). x % word) (zero-add n)
  passes_counted g (bad x w) e f = absurd (refused_not f)

  pub scan_calls : is_pending st.health ≡ false → (scan_prefix region script st prefix most out).answer.end ≡ Ok Finished
      → (scan_prefix region script st prefix most out).calls ≡ formula prefix region % word
  unfolding scan_prefix public pick scan gate
  scan_calls h =
      bool (good region)
      (λ g. rw (g, h)
      (passes_counted g
      (exec (scan_from rising flat prefix most (length out) st.health)
      (world region script (begin st))) refl))
      (λ g. rw g (λ f. absurd (refused_not f)))

-- ---- below 2^32 bytes

-- a record takes nine bytes at least
few_records : (is : List Item) → length is * 9 ≤ used is
unfolding used
few_records [] = omega arith
few_records (i ∷ is) = omega (arith, few_records is, item_holds i)

few_sifted : (p : Item → Bool) (is : List Item) → length (sift p is) ≤ length is
unfolding sift
few_sifted p [] = omega arith
few_sifted p (i ∷ is) =
    bool (p i) (λ t. rw (pick_yes (i ∷ sift p is) (sift p is) t) (omega (arith, few_sifted p is)))
    (λ f. rw (pick_no (i ∷ sift p is) (sift p is) f) (omega (arith, few_sifted p is)))

small : (region prefix : Bytes) → length region < 4294967296 → formula prefix region < word
small region prefix l =
    let m : ℕ = match_count prefix region in
    let t : ℕ = record_count region in
    let some : t * 9 ≤ length region = omega (arith, few_records (items region), used_fits region) in
    let few : m ≤ t = few_sifted (matches prefix) (items region) in
    let a : m / window_size + 1 ≤ 536870912 = omega arith in
    let b : t + 2 ≤ 536870912 = omega arith in
    let c : formula prefix region ≤ 536870912 * 536870912 = mul-le-mul a b in
    omega arith

pub scan_calls_exact : (region script : Bytes) (st : State) (prefix : Bytes) (most : ℕ) (out : Bytes)
    → length region < 4294967296
    → is_pending st.health ≡ false → (scan_prefix region script st prefix most out).answer.end ≡ Ok Finished
    → (scan_prefix region script st prefix most out).calls ≡ formula prefix region
scan_calls_exact region script st prefix most out l h f =
    let s : formula prefix region < word = small region prefix l in scan_calls region script st prefix most out h f
    ∙ omega arith
