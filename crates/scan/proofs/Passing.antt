-- A pass, an item call a turn: what is left of it to run, and what each way out comes to.
use mathlib.Core.Path.{◌≡◌, refl, sym, ap, ◌∙◌, subst}
use mathlib.Core.Bool.{true}
use mathlib.Core.List.{List, [], ◌∷◌}
use Rattle.std.specs.Prelude.{Option, None, Some, Ok, Err, IfOk}
use Rattle.std.specs.Prelude as E
use Prim.Native.Nat.{ℕ, ◌≤◌, ◌<◌}
use native.Mathlib.Omega.{arith}
use lib.ListN.{length, drop}
use Rattle.definition.specs.Tools.{Bytes, opt}
use Rattle.definition.specs.Region.{Item, good, items}
use Rattle.definition.specs.Program.{Prog, ret, err, ◌▷◌, world, ok, bad, flat, step}
use Rattle.definition.specs.Scan.{overlong, keep, pass, window_after}
use Rattle.definition.specs.declared.Step.{Step}
use Rattle.definition.specs.declared.Fault.{Fault}
use Rattle.definition.proofs.Choices.{opt_none, opt_some}
use Rattle.codec.specs.Forms.{checked_of}
use Rattle.codec.proofs.Laws.{fault_none, fault_some}
use Rattle.region.specs.Places as P
use Rattle.region.specs.Places.{Visit, end_of}
use Rattle.region.specs.declared.Place.{Place}
use Rattle.region.proofs.Answers.{met_item, met_at, met_nothing}
use Rattle.items.specs.declared.Failure.{Failure}
use Rattle.items.specs.Forms as M
use Rattle.items.specs.Forms.{Answered, Runs, Ran, Visits}
use Rattle.items.proofs.Along.{ran_done, ran_failed, next_done, next_failed, then_on, then_failed, runs_ret, runs_err, runs_see, Left, left_start, left_as, left_end, left_turn}
use Rattle.windows.specs.declared.ScanWindow.{ScanWindow}
use Rattle.windows.specs.Forms.{Direction, place_item, Held, window_items, Sane, Holds}
use Rattle.scan.specs.Forms.{Passed, pass_run, Passes}

pub met_held : {s : Bytes} {p : Place} {n : ℕ} → P.Met s p.at p.klen p.vlen n → Held s p
met_held m = let a = m.holds in let b = m.inside in record { within = omega arith; short = m.short; small = m.small }

-- the records before `at` are dealt with
pub record Passing (before : Direction) (s script prefix : Bytes) (last : Option Bytes) (t₀ : Step) (w : ScanWindow) (t : Step) (at : ℕ) : Type 0 where
  pub sane : Sane s w
  pub within : at ≤ length s
  pub is : Left (pass before flat prefix last (items s) []) s script t₀ (pass before flat prefix last (items (drop at s)) (window_items s w)) s t

module _ (before : Direction) (prefix : Bytes) (last : Option Bytes) where
  -- what follows the item call with which any pass goes on
  after : List Item → List Item → Unit {0} → Prog Bytes (List Item)
  after [] window x = ret window
  after (i ∷ is) window x = opt (overlong prefix i) (pass before flat prefix last is (keep before prefix last i window)) err

  pass_on : (is window : List Item) → pass before flat prefix last is window ≡ (step flat ▷ after is window)
  unfolding pass after
  pass_on [] window = refl
  pass_on (i ∷ is) window = refl

  module _ {s script : Bytes} where
    -- ---- the call that opens

    module _ {t : Step} {r : Answered} (h : Ran (step flat) s script t s r) where
      pub open_failed : {e : Failure} → r ≡ Err e → Passes before s script prefix last t (Err e)
      unfolding window_after
      open_failed e = record { sane = tt; is = (runs_see (then_failed (λ x. pass before flat prefix last (items s) []) (ran_failed h e))).is }

      pub opened : {u : Step} {a : Passed} → r ≡ Ok u → IfOk a (λ x. Sane s x.0)
          → Runs (pass before flat prefix last (items s) []) s script u s (pass_run s script a) → Passes before s script prefix last t a
      unfolding window_after
      opened e g n = record { sane = g; is = (runs_see (then_on (λ x. pass before flat prefix last (items s) []) err (ran_done h e) n)).is }

    -- ---- the turns

    pub passing_start : (t : Step) {w : ScanWindow} → good s ≡ true → Sane s w → window_items s w ≡ [] → Passing before s script prefix last t w t 0
    passing_start t g h e =
        record { sane = h; within = omega arith; is = left_start (ap (pass before flat prefix last (items s)) (sym e)) g }

    module _ {t₀ t : Step} {w : ScanWindow} {at : ℕ} {r : M.Met} (h : Passing before s script prefix last t₀ w t at) (v : Visits s script at t r) where
      good_region : good s ≡ true
      good_region = h.is.fine

      going : (is : List Item) → items (drop at s) ≡ is → Left (pass before flat prefix last (items s) []) s script t₀ (step flat ▷ after is (window_items s w)) s t
      going is e = left_as h.is (ap (λ (l : List Item). pass before flat prefix last l (window_items s w)) e ∙ pass_on is (window_items s w))

      pub passing_failed : {e : Failure} → r ≡ Err e → Runs (pass before flat prefix last (items s) []) s script t₀ s (bad e.fault (world s script e.step))
      passing_failed e = left_end (going _ refl) (then_failed (after (items (drop at s)) (window_items s w)) (next_failed good_region v e))

      module _ {x : Option Place × Step} (e : r ≡ Ok x) where
        visit : Visit s at x.0
        visit = subst (λ r. IfOk r (λ x. Visit s at x.0)) e v.met

        pub passing_over : x.0 ≡ None → Runs (pass before flat prefix last (items s) []) s script t₀ s (ok (window_items s w) (world s script x.1))
        unfolding after
        passing_over n =
            left_end (going [] (met_nothing visit n)) (then_on (after [] (window_items s w)) err (next_done good_region v e) (runs_ret good_region))

        module _ {p : Place} (ex : x.0 ≡ Some p) where
          here : at ≡ p.at
          here = sym (met_at visit ex)

          pub passing_met : P.Met s p.at p.klen p.vlen (end_of p)
          passing_met = subst (λ (n : ℕ). P.Met s n p.klen p.vlen (end_of p)) here (met_item visit ex)

          left_here : items (drop at s) ≡ place_item s p ∷ items (drop (end_of p) s)
          unfolding place_item
          left_here = ap (λ (n : ℕ). items (drop n s)) here ∙ passing_met.left

          turned : Left (pass before flat prefix last (items s) []) s script t₀ (after (place_item s p ∷ items (drop (end_of p) s)) (window_items s w) tt) s x.1
          turned = left_turn (after (place_item s p ∷ items (drop (end_of p) s)) (window_items s w)) err (going _ left_here) (next_done good_region v e)

          pub passing_overlong : {f : Fault} {c : E.Result (Unit {0}) Fault} → c ≡ checked_of (overlong prefix (place_item s p)) → c ≡ Err f
              → Runs (pass before flat prefix last (items s) []) s script t₀ s (bad f (world s script x.1))
          unfolding after
          passing_overlong ec ef = left_end (left_as turned (opt_some _ _ (fault_some _ (sym ef ∙ ec)))) (runs_err good_region)

          pub passing_less : {n : ℕ} → n ≡ end_of p → (at < n) × (n ≤ length s)
          passing_less en = let m = passing_met in let h = here in let a = m.holds in let b = m.inside in (omega arith, omega arith)

          pub passing_on : {c : E.Result (Unit {0}) Fault} {u : Unit {0}} {w1 : ScanWindow} {n : ℕ} → n ≡ end_of p → c ≡ checked_of (overlong prefix (place_item s p)) → c ≡ Ok u
              → Holds s (keep before prefix last (place_item s p) (window_items s w)) w1 → Passing before s script prefix last t₀ w1 x.1 n
          unfolding after
          passing_on en ec ef o =
              rw en
              (record {
                sane = o.sane;
                within = passing_met.inside;
                is = left_as (left_as turned (opt_none _ _ (fault_none _ (sym ef ∙ ec)))) (ap (pass before flat prefix last (items (drop (end_of p) s))) (sym o.is));
              })
