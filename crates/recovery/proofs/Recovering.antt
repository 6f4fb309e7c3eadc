-- What each way out of recovery says.
use mathlib.Core.Path.{◌≡◌, sym, ap, ◌∙◌, subst}
use mathlib.Core.Bool.{Bool, true, false}
use Rattle.std.specs.Prelude.{Option, Some, None, Ok, Err}
use Prim.Native.Nat.{ℕ}
use lib.ListN.{length}
use Rattle.definition.specs.Tools.{Bytes, opt}
use Rattle.definition.specs.Codec.{marker_key, marker_of}
use Rattle.definition.specs.Region.{good}
use Rattle.definition.specs.Program.{Prog, flat, remove}
use Rattle.definition.specs.Recovery.{too_many, discard, replay, recover_by, recover}
use Rattle.definition.proofs.Choices.{pick_yes, pick_no}
use Rattle.definition.specs.declared.Step.{Step}
use Rattle.definition.specs.declared.Fault.TheVariants.{JournalCorrupted}
use Rattle.definition.specs.declared.JournalPart.TheVariants as J
use Rattle.marks.specs.Forms.{MarkerReads}
use Rattle.std.specs.Borrow.{Bor}
use Rattle.items.specs.declared.Failure.{Failure}
use Rattle.items.specs.Forms.{Answered, Fetched, failure, value_of, Ran, Fetches}
use Rattle.items.proofs.Along.{ran_as, ran_runs, runs_ran, runs_see, runs_as, runs_err, failed_ran, seq_failed, seq_on, fetch_seq_failed, fetch_seq_on}

module _ {m : Option ℕ} {s script : Bytes} {t : Step} where
  module _ (u : m ≡ None) {b : Bytes} {a : Answered} (h : Ran (discard flat) s script t b a) where
    pub unread_failed : {e : Failure} → a ≡ Err e → Ran (recover_by flat m) s script t b (Err e)
    unfolding recover_by
    unread_failed e = ran_as (ap (recover_by flat) u) (seq_failed (λ x. remove flat marker_key) h e)

    pub unread_on : {t1 : Step} {k b2 : Bytes} {r : Answered} → a ≡ Ok t1 → k ≡ marker_key → Ran (remove flat k) b script t1 b2 r → Ran (recover_by flat m) s script t b2 r
    unfolding recover_by
    unread_on e ek d = ran_as (ap (recover_by flat) u) (seq_on (λ x. remove flat marker_key) h e (ran_as (ap (remove flat) (sym ek)) d))

  module _ {c : ℕ} (u : m ≡ Some c) {z : Bool} (ez : z ≡ too_many (length s) c) where
    pub count_refused : z ≡ true → good s ≡ true → Ran (recover_by flat m) s script t s (Err (failure (JournalCorrupted (J.MarkerCount c)) t))
    unfolding recover_by
    count_refused y g = ran_as (ap (recover_by flat) u) (failed_ran (runs_see (runs_as (pick_yes _ _ (sym ez ∙ y)) (runs_err g))))

    pub count_on : {b : Bytes} {r : Answered} → z ≡ false → Ran (replay flat c 0) s script t b r → Ran (recover_by flat m) s script t b r
    unfolding recover_by
    count_on {r = r} y a = ran_as (ap (recover_by flat) u) (runs_ran r (runs_see (runs_as (pick_no _ _ (sym ez ∙ y)) (ran_runs a))))

module _ {k : Bytes} (ek : k ≡ marker_key) {s script : Bytes} {t : Step} {r : Fetched} (g : good s ≡ true) (h : Fetches k s script t r) where
  marker_fetched : Fetches marker_key s script t r
  marker_fetched = subst (λ j. Fetches j s script t r) ek h

  abbrev after : Option Bytes → Prog Bytes (Unit {0})
  after o = opt o (discard flat) (λ v. recover_by flat (marker_of v))

  pub recover_missed : {e : Failure} → r ≡ Err e → Ran (recover flat) s script t s (Err e)
  unfolding recover
  recover_missed e = fetch_seq_failed after g marker_fetched e

  pub recover_none : {x : Option (Bor Bytes) × Step} {b : Bytes} {r2 : Answered} → r ≡ Ok x → x.0 ≡ None → Ran (discard flat) s script x.1 b r2 → Ran (recover flat) s script t b r2
  unfolding recover opt
  recover_none e q n = fetch_seq_on after g marker_fetched e (ran_as (ap (λ o. after (value_of o)) q) n)

  pub recover_some : {x : Option (Bor Bytes) × Step} {v : Bor Bytes} {m : Option ℕ} {b : Bytes} {r2 : Answered} → r ≡ Ok x → x.0 ≡ Some v
      → MarkerReads v.now m → Ran (recover_by flat m) s script x.1 b r2 → Ran (recover flat) s script t b r2
  unfolding recover opt
  recover_some e q em a = fetch_seq_on after g marker_fetched e (ran_as (ap (λ o. after (value_of o)) q ∙ ap (recover_by flat) (sym em.is)) a)
