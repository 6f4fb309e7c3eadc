-- The iteration over all items, and the dropping of journal items one by one.
use mathlib.Core.Path.{◌≡◌, refl, sym, ap, ◌∙◌, subst}
use mathlib.Core.Bool.{true}
use Rattle.std.specs.Prelude.{Option, Some, None, Ok, Err, IfOk, IfSome, option_map, ◌≤◌}
use mathlib.Core.List.{List}
use Prim.Native.Nat.{ℕ, suc, ◌<◌}
use native.Mathlib.Omega.{arith}
use lib.ListN.{length, take, drop}
use Rattle.std.specs.Borrow.{Bor}
use Rattle.std.proofs.lemmas.List.{take_all}
use Rattle.definition.specs.Tools.{Bytes}
use Rattle.definition.specs.Region.{Item, removed, good, items}
use Rattle.definition.specs.Program.{err, ◌▷◌, flat, remove, step}
use Rattle.definition.specs.Recovery.{iterate, drop_each, journal_keys, discard}
use Rattle.definition.proofs.Image.{remove_items}
use Rattle.definition.specs.declared.Step.{Step}
use Rattle.region.specs.Places as P
use Rattle.region.specs.Places.{Visit, end_of, first_of}
use Rattle.region.specs.declared.Place.{Place}
use Rattle.region.proofs.Answers.{met_item, met_at, met_nothing}
use Rattle.region.proofs.Journals.{no_keys, keys_after}
use Rattle.items.specs.declared.Failure.{Failure}
use Rattle.items.specs.Forms.{Answered, Met, Ran, Visits}
use Rattle.items.proofs.Laws.{remove_wrote}
use Rattle.items.proofs.Along.{Left, left_start, left_as, left_end, left_turn, ran_done, ran_runs, runs_ran, runs_ret, runs_see, then_failed, done_ran, failed_ran, next_done, next_failed, seq_failed, seq_on}

-- ---- the iteration

-- the item calls from place `at` on are left
abbrev pub Iterating : Bytes → Bytes → Step → ℕ → Step → Type 0
Iterating s script t at t1 = Left (iterate flat (suc (length (items s)))) s script t (iterate flat (suc (length (items (drop at s))))) s t1

pub iterating_start : {s script : Bytes} {t : Step} → good s ≡ true → Iterating s script t 0 t
iterating_start g = left_start refl g

module _ {s script : Bytes} {t : Step} {o : Answered} (h : Ran (step flat) s script t s o) where
  pub not_opened : {e : Failure} → o ≡ Err e → Ran (iterate flat (suc (suc (length (items s))))) s script t s (Err e)
  unfolding iterate
  not_opened e = seq_failed _ h e

  pub opened : {t1 : Step} {r : Answered} → o ≡ Ok t1 → Ran (iterate flat (suc (length (items s)))) s script t1 s r
      → Ran (iterate flat (suc (suc (length (items s))))) s script t s r
  unfolding iterate
  opened e n = seq_on (λ x. iterate flat (suc (length (items s)))) h e n

module _ {s script : Bytes} {t : Step} (at : ℕ) {t1 : Step} (l : Iterating s script t at t1) {a : Met} (h : Visits s script at t1 a) where
  rest : Left (iterate flat (suc (length (items s)))) s script t (step flat ▷ λ x. iterate flat (length (items (drop at s)))) s t1
  unfolding iterate
  rest = l

  pub iterate_failed : {e : Failure} → a ≡ Err e → Ran (iterate flat (suc (length (items s)))) s script t s (Err e)
  iterate_failed e = failed_ran (left_end rest (then_failed (λ x. iterate flat (length (items (drop at s)))) (next_failed l.fine h e)))

  module _ {x : Option Place × Step} (e : a ≡ Ok x) where
    visit : Visit s at x.0
    visit = subst (λ r. IfOk r (λ x. Visit s at x.0)) e h.met

    turned : Left (iterate flat (suc (length (items s)))) s script t (iterate flat (length (items (drop at s)))) s x.1
    turned = left_turn (λ x. iterate flat (length (items (drop at s)))) err rest (next_done l.fine h e)

    pub iterate_over : x.0 ≡ None → Ran (iterate flat (suc (length (items s)))) s script t s (Ok x.1)
    unfolding iterate
    iterate_over q = done_ran (left_end (left_as turned (ap (λ (m : List Item). iterate flat (length m)) (met_nothing visit q))) (runs_ret l.fine))

    module _ {p : Place} (q : x.0 ≡ Some p) where
      pub iterate_met : P.Met s at p.klen p.vlen (end_of p)
      iterate_met = met_item visit q

      pub iterate_at : p.at ≡ at
      iterate_at = met_at visit q

      pub iterate_on : Iterating s script t (end_of p) x.1
      iterate_on = left_as turned (ap (λ (m : List Item). iterate flat (length m)) iterate_met.left)

-- ---- dropping

pub four_of : {x : Option (Bor Bytes)} {v : Bor Bytes} → IfSome x (λ k. length k.now ≡ 4) → x ≡ Some v → length v.now ≡ 4
four_of h e = subst (λ x. IfSome x (λ k. length k.now ≡ 4)) e h

-- a key that was copied whole
pub copied_key : {x : Option (Bor Bytes)} {v : Bor Bytes} {k : Bytes} → x ≡ Some v → length v.now ≡ 4 → length k ≡ 4 → take (length v.now) k ≡ v.now
    → option_map (λ v. v.now) x ≡ Some k
copied_key {v = v} {k = k} e l m w =
    let h : length k ≤ length v.now = omega arith in
    ap (option_map (λ v. v.now)) e ∙ ap Some (sym w ∙ take_all (length v.now) k h)

abbrev pub Dropping : Bytes → Bytes → Step → Bytes → Step → Type 0
Dropping s script t b t1 = Left (drop_each flat (journal_keys (items s))) s script t (drop_each flat (journal_keys (items b))) b t1

pub dropping_start : {s script : Bytes} {t : Step} → good s ≡ true → Dropping s script t s t
dropping_start g = left_start refl g

module _ {s script : Bytes} {t : Step} {b : Bytes} {t1 : Step} (l : Dropping s script t b t1) {x : Option Bytes} (h : x ≡ first_of (journal_keys (items b))) where
  pub dropped_all : x ≡ None → Ran (drop_each flat (journal_keys (items s))) s script t b (Ok t1)
  unfolding drop_each
  dropped_all e = done_ran (left_end (left_as l (ap (drop_each flat) (no_keys (items b) (sym h ∙ e)))) (runs_ret l.fine))

  module _ {k : Bytes} (e : x ≡ Some k) {b2 : Bytes} {r : Answered} (a : Ran (remove flat k) b script t1 b2 r) where
    first : first_of (journal_keys (items b)) ≡ Some k
    first = sym h ∙ e

    rest_drop : Left (drop_each flat (journal_keys (items s))) s script t (remove flat k ▷ λ x. drop_each flat (journal_keys (removed k (items b)))) b t1
    unfolding drop_each
    rest_drop = left_as l (ap (drop_each flat) (keys_after (items b) k first))

    pub drop_failed : {e : Failure} → r ≡ Err e → Ran (drop_each flat (journal_keys (items s))) s script t b2 (Err e)
    drop_failed {e = f} q = runs_ran (Err f) (left_end rest_drop (ran_runs (seq_failed (λ x. drop_each flat (journal_keys (removed k (items b)))) a q)))

    items_left : {t2 : Step} → r ≡ Ok t2 → items b2 ≡ removed k (items b)
    items_left q = ap items (remove_wrote k a q).is ∙ remove_items b l.fine k

    pub drop_on : {t2 : Step} → r ≡ Ok t2 → Dropping s script t b2 t2
    drop_on q =
        left_as (left_turn (λ x. drop_each flat (journal_keys (removed k (items b)))) err rest_drop (ran_done a q))
        (ap (λ (m : List Item). drop_each flat (journal_keys m)) (sym (items_left q)))

    pub drop_less : {t2 : Step} → r ≡ Ok t2 → length (journal_keys (items b2)) < length (journal_keys (items b))
    drop_less q = omega (arith, ap (λ (m : List Item). length (journal_keys m)) (items_left q), ap length (keys_after (items b) k first))

-- ---- what is left of a journal

module _ {s script : Bytes} {t : Step} {r : Answered} (h : Ran (iterate flat (suc (suc (length (items s))))) s script t s r) where
  pub discard_failed : {e : Failure} → r ≡ Err e → Ran (discard flat) s script t s (Err e)
  unfolding discard
  discard_failed {e = f} e = runs_ran (Err f) (runs_see (ran_runs (seq_failed (λ x. drop_each flat (journal_keys (items s))) h e)))

  pub discard_on : {t1 : Step} {b : Bytes} {r2 : Answered} → r ≡ Ok t1 → Ran (drop_each flat (journal_keys (items s))) s script t1 b r2 → Ran (discard flat) s script t b r2
  unfolding discard
  discard_on {r2 = r2} e n = runs_ran r2 (runs_see (ran_runs (seq_on (λ x. drop_each flat (journal_keys (items s))) h e n)))
