-- What the definition's proofs show of any map, at document 01's map, the region's bytes; and the step from an item
-- program to a public call.
use mathlib.Core.Path.{◌≡◌}
use mathlib.Core.Bool.{true}
use Rattle.std.specs.Prelude.{Option, None, Some}
use Prim.Native.Nat.{ℕ}
use lib.ListN.{length}
use Rattle.definition.specs.Tools.{Bytes, pick}
use Rattle.definition.specs.Region.{good}
use Rattle.definition.specs.Codec.{laid}
use Rattle.definition.specs.Program.{Prog, World, world, Result, exec, flat}
use Rattle.definition.specs.Calls.{Said}
use Rattle.definition.specs.Scan.{rising}
use Rattle.definition.specs.Public.{Outcome, outcome, after, begin, outcome_of, public}
use Rattle.definition.specs.declared.State.{State}
use Rattle.definition.specs.declared.Fault.{Fault}
use Rattle.definition.specs.declared.Health.{Health}
use Rattle.definition.proofs.Codecs.{rising_irreflexive, rising_transitive, rising_total}
use Rattle.reasons.proofs.Ensures.{Ends, well, ill}
use Rattle.reasons.proofs.MapLaws.{Reckoning, no_reckoning}
use Rattle.reasons.proofs.FlatLaws.{flat_laws}
use Rattle.reasons.proofs.StandsFor.{Either, Stands, to_either, is_good, extent_is}
use Rattle.reasons.proofs.Answers.{Never}
use Rattle.reasons.proofs.Listings.{StrictOrder}
use Rattle.promise.specs.Promise.{Plain}

-- document 01 reckons nothing beforehand
abbrev pub base : Reckoning flat
base = no_reckoning flat

pub rising_order : StrictOrder rising
rising_order = record { irreflexive = rising_irreflexive; transitive = rising_transitive; total = rising_total }

-- ---- what stands for a plain map, in a region of this length

module _ (len : ℕ) where
  abbrev pub Standing : Health → Plain → Bytes → Type 0
  Standing = Stands flat flat_laws base len

  -- with no state, a marker may stand or not
  abbrev pub Whichever : Plain → Bytes → Type 0
  Whichever = Either flat flat_laws base len

  -- under the newest state
  abbrev pub Holds : Option State → Plain → Bytes → Type 0
  Holds None A region = Whichever A region
  Holds (Some st) A region = Standing st.health A region

  pub whichever : (o : Option State) {A : Plain} {region : Bytes} → Holds o A region → Whichever A region
  whichever None m = m
  whichever (Some st) m = to_either flat flat_laws base len st.health m

  pub image_good : {A : Plain} {region : Bytes} → Whichever A region → good region ≡ true
  image_good m = is_good flat flat_laws base len m

  pub image_length : {A : Plain} {region : Bytes} → Whichever A region → length region ≡ len
  image_length m = extent_is flat flat_laws base len m

-- ---- a public call: what its program ensures, it does

module _ {X : Type 0} (refuse : Fault → X) {Q : Said X → Bytes → Type 0} (G : Outcome X → Type 0) where
  pub on_public : (p : Prog Bytes (Said X)) (region script : Bytes) (st : State) (output : Bytes) → good region ≡ true
      → Ends Q Never (exec p (world region script (begin st)))
      → ((r : Said X) (w : World Bytes) → Q r w.region
      → G (outcome r.answer (after r.health w.step) w.step.calls w.region (laid r.wrote output)))
      → G (public refuse p region script st output)
  unfolding public outcome_of pick
  on_public p region script st output g e f = rw g (go (exec p (world region script (begin st))) e)
    where
      go : (r : Result (World Bytes) (Said X)) → Ends Q Never r → G (outcome_of refuse st.health output r)
      go r (well {a = a} {w = w} q) = f a w q
      go r (ill x) = absurd x
