-- The replay of a journal: one turn of its loop, and its end.
use mathlib.Core.Path.{◌≡◌, sym, ap, ◌∙◌}
use mathlib.Core.Bool.{true}
use Prim.Native.Nat.{ℕ, suc, ◌+◌, ◌-◌, ◌≤◌, ◌<◌}
use native.Mathlib.Omega.{arith}
use native.Mathlib.Numerals.{add-one}
use native.Mathlib.Nat.{sub-zero}
use Rattle.definition.specs.Tools.{Bytes}
use Rattle.definition.specs.Codec.{marker_key}
use Rattle.definition.specs.Region.{good}
use Rattle.definition.specs.Program.{err, ◌▷◌, flat, remove}
use Rattle.definition.specs.Recovery.{redo, replay}
use Rattle.definition.specs.declared.Step.{Step}
use Rattle.std.specs.Prelude.{Ok, Err}
use Rattle.items.specs.declared.Failure.{Failure}
use Rattle.items.specs.Forms.{Answered, Ran}
use Rattle.items.proofs.Along.{Left, left_start, left_as, left_end, left_turn, ran_as, ran_done, ran_runs, runs_ran, seq_failed}

-- of n entries, those from i on are left
abbrev pub Replaying : ℕ → Bytes → Bytes → Step → ℕ → Bytes → Step → Type 0
Replaying n s script t i b t1 = Left (replay flat n 0) s script t (replay flat (n - i) i) b t1

replay_turn : (n i : ℕ) → i < n → replay flat (n - i) i ≡ (redo flat i ▷ λ x. replay flat (n - (i + 1)) (i + 1))
unfolding replay
replay_turn n i h =
    let e : n - i ≡ suc (n - (i + 1)) = omega arith in
    ap (λ m. replay flat m i) e ∙ ap (λ m. redo flat i ▷ λ x. replay flat (n - (i + 1)) m) (sym (add-one i))

replay_last : (n i : ℕ) → i ≤ n → n ≤ i → replay flat (n - i) i ≡ remove flat marker_key
unfolding replay
replay_last n i a b = let e : n - i ≡ 0 = omega arith in ap (λ m. replay flat m i) e

module _ (n : ℕ) {s script : Bytes} {t : Step} where
  pub replay_start : good s ≡ true → Replaying n s script t 0 s t
  replay_start g = left_start (ap (λ m. replay flat m 0) (sym (sub-zero n))) g

  module _ (i : ℕ) {b : Bytes} {t1 : Step} (l : Replaying n s script t i b t1) where
    pub replay_on : {b2 : Bytes} {r : Answered} {t2 : Step} → i < n → Ran (redo flat i) b script t1 b2 r → r ≡ Ok t2 → Replaying n s script t (i + 1) b2 t2
    replay_on h a e = left_turn (λ x. replay flat (n - (i + 1)) (i + 1)) err (left_as l (replay_turn n i h)) (ran_done a e)

    pub replay_failed : {b2 : Bytes} {r : Answered} {e : Failure} → i < n → Ran (redo flat i) b script t1 b2 r → r ≡ Err e
        → Ran (replay flat n 0) s script t b2 (Err e)
    replay_failed {e = f} h a e =
        runs_ran (Err f) (left_end (left_as l (replay_turn n i h)) (ran_runs (seq_failed (λ x. replay flat (n - (i + 1)) (i + 1)) a e)))

    pub replay_end : {b2 k : Bytes} {r : Answered} → i ≤ n → n ≤ i → k ≡ marker_key → Ran (remove flat k) b script t1 b2 r → Ran (replay flat n 0) s script t b2 r
    replay_end {r = r} u v e a = runs_ran r (left_end (left_as l (replay_last n i u v)) (ran_runs (ran_as (ap (remove flat) (sym e)) a)))
