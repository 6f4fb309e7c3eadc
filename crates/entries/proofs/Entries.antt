-- What each return of the functions says, over plain variables.
use mathlib.Core.Path.{◌≡◌, refl, sym, ap, ◌∙◌, subst}
use mathlib.Core.Bool.{Bool, true, false}
use mathlib.Core.Logic.{◌⊎◌, inl, inr}
use mathlib.Core.List.{[]}
use Prim.Native.Nat.{ℕ, ◌+◌, ◌-◌, ◌<◌, ◌≤◌}
use native.Mathlib.Omega.{arith}
use lib.ListN.{length, get_or, take, drop, length-drop}
use lib.Seq.{take_all}
use lib.Dec.{eqb, ltb}
use borrow.Author.Tests.{ne_eqb, eq-eqb, lt-ltb, le-ltb}
use Rattle.definition.specs.Tools.{Bytes, pick}
use Rattle.definition.specs.Codec.{reserved, long_value, entry_of, entry_value, key_part, value_part}
use Rattle.definition.proofs.Choices.{picked, passed}
use Rattle.definition.specs.declared.Entry.{Entry}
use Rattle.definition.specs.declared.Entry.TheVariants as E
use Rattle.entries.specs.Forms.{Inside, EntryReads}

module _ (v : Bytes) where
  pub entry_head : length v < 2 → EntryReads v E.Corrupt
  unfolding entry_of
  entry_head h = record { is = picked _ _ _ (lt-ltb _ _ h) refl; inside = tt }

  module _ (h1 : 2 ≤ length v) {k : ℕ} (ek : k ≡ get_or v 1 0) where
    -- the tests passed so far, then what is left of them
    past_head : {e : Entry} → e ≡ pick (ltb (length v) (2 + get_or v 1 0)) E.Corrupt
        (pick (ltb 96 (get_or v 1 0)) E.Corrupt (pick (reserved (take (get_or v 1 0) (drop 2 v))) E.Corrupt
        (pick (eqb (get_or v 0 0) 0) (pick (long_value (entry_value v)) E.Corrupt (E.Put (get_or v 1 0))) (pick (eqb (get_or v 0 0) 1) (E.Delete (get_or v 1 0)) E.Corrupt))))
        → e ≡ entry_of v
    unfolding entry_of
    past_head e = passed _ _ _ (le-ltb _ _ h1) e

    pub entry_short : length v < 2 + k → EntryReads v E.Corrupt
    entry_short h = let z : length v < 2 + get_or v 1 0 = omega arith in record { is = past_head (picked _ _ _ (lt-ltb _ _ z) refl); inside = tt }

    module _ (h2 : 2 + k ≤ length v) where
      within : 2 + get_or v 1 0 ≤ length v
      within = omega arith

      pub entry_long : 96 < k → EntryReads v E.Corrupt
      entry_long h =
          let z : 96 < get_or v 1 0 = omega arith in
          record { is = past_head (passed _ _ _ (le-ltb _ _ within) (picked _ _ _ (lt-ltb _ _ z) refl)); inside = tt }

      module _ (h3 : k ≤ 96) {r : Bool} (er : r ≡ reserved (take (2 + k - 2) (drop 2 v))) where
        is_reserved : reserved (take (get_or v 1 0) (drop 2 v)) ≡ r
        is_reserved = let e : get_or v 1 0 ≡ 2 + k - 2 = omega arith in ap (λ n. reserved (take n (drop 2 v))) e ∙ sym er

        past_key : {e : Entry} → e ≡ pick (reserved (take (get_or v 1 0) (drop 2 v))) E.Corrupt
            (pick (eqb (get_or v 0 0) 0) (pick (long_value (entry_value v)) E.Corrupt (E.Put (get_or v 1 0))) (pick (eqb (get_or v 0 0) 1) (E.Delete (get_or v 1 0)) E.Corrupt))
            → e ≡ entry_of v
        past_key e = let z : get_or v 1 0 ≤ 96 = omega arith in past_head (passed _ _ _ (le-ltb _ _ within) (passed _ _ _ (le-ltb _ _ z) e))

        pub entry_reserved : r ≡ true → EntryReads v E.Corrupt
        entry_reserved h = record { is = past_key (picked _ _ _ (is_reserved ∙ h) refl); inside = tt }

        module _ (h4 : r ≡ false) where
          value_long : length (drop (2 + get_or v 1 0) v) ≡ length v - (2 + k)
          value_long = length-drop (2 + get_or v 1 0) v ∙ ap (λ x. length v - (2 + x)) (sym ek)

          pub entry_value_long : get_or v 0 0 ≡ 0 → 256 < length v - (2 + k) → EntryReads v E.Corrupt
          unfolding long_value
          entry_value_long o h =
              let z : 256 < length (drop (2 + get_or v 1 0) v) = omega (arith, value_long) in
              record { is = past_key (passed _ _ _ (is_reserved ∙ h4) (picked _ _ _ (eq-eqb _ _ o) (picked _ _ _ (lt-ltb _ _ z) refl))); inside = tt }

          pub entry_put : get_or v 0 0 ≡ 0 → length v - (2 + k) ≤ 256 → EntryReads v (E.Put k)
          unfolding long_value
          entry_put o h =
              let z : length (drop (2 + get_or v 1 0) v) ≤ 256 = omega (arith, value_long) in
              record {
                is = past_key (passed _ _ _ (is_reserved ∙ h4) (picked _ _ _ (eq-eqb _ _ o) (passed _ _ _ (le-ltb _ _ z) (ap E.Put ek))));
                inside = (h2, h3, omega arith);
              }

          pub entry_delete : (get_or v 0 0 ≡ 0 → ⊥) → get_or v 0 0 ≡ 1 → EntryReads v (E.Delete k)
          entry_delete n o =
              record {
                is = past_key (passed _ _ _ (is_reserved ∙ h4) (passed _ _ _ (ne_eqb _ _ n) (picked _ _ _ (eq-eqb _ _ o) (ap E.Delete ek))));
                inside = (h2, h3);
              }

          pub entry_unknown : (get_or v 0 0 ≡ 0 → ⊥) → (get_or v 0 0 ≡ 1 → ⊥) → EntryReads v E.Corrupt
          entry_unknown n o =
              record { is = past_key (passed _ _ _ (is_reserved ∙ h4) (passed _ _ _ (ne_eqb _ _ n) (passed _ _ _ (ne_eqb _ _ o) refl))); inside = tt }

-- the parts of an entry that was decoded
module _ (v : Bytes) {e : Entry} (r : EntryReads v e) where
  pub put_inside : {n : ℕ} → e ≡ E.Put n → (2 + n ≤ length v) × (n ≤ 96) × (length v ≤ 258 + n)
  put_inside q = subst (Inside v) q r.inside

  pub key_read : {n : ℕ} → (e ≡ E.Put n) ⊎ (e ≡ E.Delete n) → take (2 + n - 2) (drop 2 v) ≡ key_part (entry_of v) v
  unfolding key_part
  key_read {n} o =
      let z : 2 + n - 2 ≡ n = omega arith in ap (λ k. take k (drop 2 v)) z ∙ go o
    where
      go : (e ≡ E.Put n) ⊎ (e ≡ E.Delete n) → take n (drop 2 v) ≡ key_part (entry_of v) v
      go (inl q) = ap (λ x. key_part x v) (sym q ∙ r.is)
      go (inr q) = ap (λ x. key_part x v) (sym q ∙ r.is)

  pub no_key : e ≡ E.Corrupt → [] ≡ key_part (entry_of v) v
  unfolding key_part
  no_key q = ap (λ x. key_part x v) (sym q ∙ r.is)

  pub value_read : {n : ℕ} → e ≡ E.Put n → take (length v - (2 + n)) (drop (2 + n) v) ≡ value_part (entry_of v) v
  unfolding value_part
  value_read {n} q =
      take_all (length v - (2 + n)) (drop (2 + n) v) (simp length-drop (omega arith)) ∙ ap (λ x. value_part x v) (sym q ∙ r.is)

  pub no_value : ((n : ℕ) × (e ≡ E.Delete n)) ⊎ (e ≡ E.Corrupt) → [] ≡ value_part (entry_of v) v
  unfolding value_part
  no_value (inl q) = ap (λ x. value_part x v) (sym q.1 ∙ r.is)
  no_value (inr q) = ap (λ x. value_part x v) (sym q ∙ r.is)

-- what each return of `decode_entry` says
pub ruleset entry_tests = (entry_head, entry_short, entry_long, entry_reserved, entry_value_long, entry_put, entry_delete, entry_unknown)
