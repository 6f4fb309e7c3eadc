-- C-11, proved: the numbers in a state are those of its region, from the last mount tried on.
use mathlib.Core.Path.{◌≡◌, refl, sym, ap, ◌∙◌, subst}
use mathlib.Core.List.{[]}
use Rattle.std.specs.Prelude.{Some, Ok, Err}
use Prim.Native.Nat.{ℕ}
use lib.ListN.{length}
use Rattle.definition.specs.Tools.{Bytes, pick, opt}
use Rattle.definition.specs.Region.{good}
use Rattle.definition.specs.Space.{space_of}
use Rattle.definition.specs.Program.{Prog, World, world, Result, exec, flat}
use Rattle.definition.specs.Calls.{Said, region_fault}
use Rattle.definition.specs.Scan.{rising}
use Rattle.definition.specs.Public.{Outcome, begin, outcome_of, public}
use Rattle.definition.specs.Public as Public
use Rattle.definition.specs.declared.State.{State}
use Rattle.definition.specs.declared.Fault.{Fault}
use Rattle.definition.specs.Answers.{Answer}
use Rattle.definition.proofs.Choices.{bool, opt_to}
use Rattle.reasons.proofs.StandsFor.{none≢some}
use Rattle.promise.specs.Run.{Source, from_list, from_pool, batched, Call, rescript, mount, get, contains, put, delete, apply_batch, scan_prefix, Moment, made, state_after, mounting, turn}
use Rattle.promise.specs.Display.{tried, called, Displayed}
use Rattle.reasons.proofs.Counting.{Honest, TrueAfter, well, ill, exec_true, gets, containses, puts, deletes, batches_of, mounts, scans}

-- the numbers that a call leaves are those of the region that it leaves
record Fits {A : Type 0} (r : Outcome A) : Type 0 where
  is : r.state.space ≡ space_of r.region

public_fits : {A : Type 0} (refuse : Fault → A) {p : Prog Bytes (Said A)} (region script : Bytes) (st : State) (output : Bytes) → Honest space_of p
    → st.space ≡ space_of region → Fits (public refuse p region script st output)
unfolding public outcome_of pick
public_fits {A} refuse {p} region script st output h e =
    bool (good region) (λ g. rw g (go (exec p (world region script (begin st))) (exec_true space_of h _ (record { is = e })))) (λ g. rw g (record { is = e }))
  where
    go : (r : Result (World Bytes) (Said A)) → TrueAfter space_of r → Fits (outcome_of refuse st.health output r)
    go r (well t) = record { is = t.is }
    go r (ill t) = record { is = t.is }

mount_fits : (region script : Bytes) (start at : ℕ) → Fits (Public.mount region script start at)
unfolding Public.mount
mount_fits region script start at =
    opt_to Fits (region_fault start (length region)) (λ e. public_fits Err region script (Public.unmounted region at) [] (mounts flat) refl) (λ f e. record { is = refl })

batch_fits : (source : Source) (region script : Bytes) (st : State) → st.space ≡ space_of region → Fits (batched source region script st)
unfolding batched Public.apply_batch Public.apply_ops
batch_fits (from_list list) region script st e = public_fits Err region script st [] (batches_of flat _ _) e
batch_fits (from_pool ops pool) region script st e = public_fits Err region script st [] (batches_of flat _ _) e

-- ---- a turn

record Follows (m : Moment) : Type 0 where
  fits : (st : State) → m.newest ≡ Some st → st.space ≡ space_of m.region

newest_is : {region script : Bytes} {s : State} → s.space ≡ space_of region → Follows (record { region = region; script = script; newest = Some s })
newest_is {s = s} e = record { fits = λ st q. let z : s ≡ st = cc in ap (λ (x : State). x.space) (sym z) ∙ e }

mounted : (script : Bytes) {r : Outcome Answer} → Fits r → Follows (record { region = r.region; script = script; newest = state_after r.answer r.state })
unfolding state_after
mounted script {r} f = go r.answer
  where
    go : (a : Answer) → Follows (record { region = r.region; script = script; newest = state_after a r.state })
    go (Ok done) = newest_is f.is
    go (Err x) = record { fits = λ st q. absurd (none≢some q) }

module _ (region script : Bytes) (st : State) (e : st.space ≡ space_of region) where
  follows : (c : Call) → Follows (turn c (record { region = region; script = script; newest = Some st })).next
  unfolding turn made opt mounting Public.get Public.contains Public.put Public.delete Public.scan_prefix
  follows (rescript new at) = newest_is e
  follows (mount start at) = mounted script (mount_fits region script start at)
  follows (get key output) = newest_is (public_fits _ region script st output (gets flat key _ _) e).is
  follows (contains key) = newest_is (public_fits _ region script st [] (containses flat key _) e).is
  follows (put key value) = newest_is (public_fits _ region script st [] (puts flat key value _) e).is
  follows (delete key) = newest_is (public_fits _ region script st [] (deletes flat key _) e).is
  follows (apply_batch source) = newest_is (batch_fits source region script st e).is
  follows (scan_prefix prefix most output) = newest_is (public_fits _ region script st output (scans flat rising prefix most _ _) e).is

pub displayed : Displayed
unfolding Public.space
displayed region st (tried bytes script start at) = (mount_fits bytes script start at).is
displayed region st (called {region = before} {st = old} c script r e n) =
    (subst Follows e (follows before script old (displayed before old r) c)).fits st n
