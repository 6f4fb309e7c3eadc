-- "Programs to be shown wrong", by demand 3: a put that says Ok and stores nothing, and a batch that does its first
-- operation and says Ok. The plain map allows no such answers, whatever it is and whatever stands in the outputs.
use mathlib.Core.Path.{◌≡◌, sym, ap, ◌∙◌}
use mathlib.Core.List.{List, [], ◌∷◌, ◌++◌}
use Rattle.std.specs.Prelude.{None, Some, Ok}
use Rattle.definition.specs.Tools.{Bytes}
use Rattle.definition.specs.Codec.{Op, Put}
use Rattle.definition.specs.Numbers.{refusal}
use Rattle.definition.proofs.Choices.{pick_yes, eqs_refl}
use Rattle.reasons.proofs.StandsFor.{none≢some}
use Rattle.promise.specs.Run.{Source, operations, put, get, apply_batch, answered, got, refusal_of}
use Rattle.promise.specs.Promise.{Plain, after, after_all, Step}
use Rattle.promise.specs.Promise as P

-- ---- what these answers say of the map before and after

absent_is : {A B : Plain} {key output shown : Bytes} → Step A (get key output) (got (Ok None) shown) B → A key ≡ None
unfolding refusal_of refusal
absent_is (P.ok (P.get_absent e)) = e
absent_is (P.out r x y z) = absurd (none≢some r)

put_in : {A : Plain} {key value : Bytes} {B : Plain} → Step A (put key value) (answered (Ok tt)) B → B key ≡ Some value
unfolding after refusal_of refusal
put_in {key = key} (P.ok P.put_ok) = pick_yes _ _ (eqs_refl key)
put_in (P.out r x y z) = absurd (none≢some r)

batch_in : {A B : Plain} {source : Source} {ops : List Op} → operations source ≡ Some ops
    → Step A (apply_batch source) (answered (Ok tt)) B
    → (k : Bytes) → B k ≡ after_all ops A k
unfolding refusal_of refusal
batch_in {A} {ops = ops} e (P.ok (P.batch_ok {ops = done} f)) k = let same : done ≡ ops = some_is (sym f ∙ e) in ap
    (λ (x : List Op). after_all x A k) same
  where
    some_is : {x y : List Op} → Some x ≡ Some y → x ≡ y
    some_is p = cc
batch_in e (P.out r x y z) k = absurd (none≢some r)

-- the last of several puts is there
last_put : (ops : List Op) (key value : Bytes) (A : Plain) → after_all (ops ++ (Put key value ∷ [])) A key ≡ Some value
unfolding after_all after
last_put [] key value A = pick_yes _ _ (eqs_refl key)
last_put (op ∷ ops) key value A = last_put ops key value (after op A)

-- ---- so that each of these is wrong

-- a put that says Ok and stores nothing; and a get that always says absent
pub put_stores : {A B C : Plain} {key value output shown : Bytes}
    → Step A (put key value) (answered (Ok tt)) B → Step B (get key output) (got (Ok None) shown) C → ⊥
put_stores p q = none≢some (sym (absent_is q) ∙ put_in p)

-- a batch that says Ok and leaves out its last operation, whatever it does of those before: of two, one that does its
-- first alone
pub batch_is_whole : {A B C : Plain} {source : Source} {output shown : Bytes} (ops : List Op) (key value : Bytes)
    → operations source ≡ Some (ops ++ (Put key value ∷ [])) → Step A (apply_batch source) (answered (Ok tt)) B
    → Step B (get key output) (got (Ok None) shown) C → ⊥
batch_is_whole {A} ops key value e p q = none≢some (sym (absent_is q) ∙ batch_in e p key ∙ last_put ops key value A)
