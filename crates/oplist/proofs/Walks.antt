-- A walk over an operation list: what a visit of a place makes of the operations that are left, and what the whole
-- list's shape says of them.
use mathlib.Core.Path.{◌≡◌, refl, sym, ap, ◌∙◌, subst}
use mathlib.Core.List.{List, [], ◌∷◌}
use Rattle.std.specs.Prelude.{Option, Some, None, option_map}
use Prim.Native.Nat.{ℕ, ◌+◌, ◌≤◌, ◌<◌}
use native.Mathlib.Nat.{add-zero}
use native.Mathlib.Omega.{arith}
use lib.Dec.{leb}
use borrow.Author.Tests.{leb-true, leb-false}
use lib.ListN.{length, drop, length-drop}
use lib.Seq.{drop-drop}
use Rattle.definition.specs.Tools.{Bytes}
use Rattle.definition.specs.Codec.{Op, Put, op_key, op_value, op_fault}
use Rattle.definition.specs.OperationList.{op_size, ops_of}
use Rattle.definition.proofs.Choices.{bool}
use Rattle.codec.specs.declared.OpKind.{OpKind}
use Rattle.codec.specs.declared.OpKind.TheVariants as K
use Rattle.codec.specs.Forms.{op_as}
use Rattle.oplist.specs.declared.ListOp.{ListOp}
use Rattle.oplist.specs.declared.OpWalk.{OpWalk}
use Rattle.oplist.specs.Places.{Visit, Met, shape_of, those, Listed, Given, Op-at, None-at, Found, Steps}
use Rattle.oplist.proofs.Lists.{ops_empty, ops_on, ops_off}

-- ---- the operations of a list that are left at a place

module _ {s : Bytes} {at : ℕ} {o : ListOp} (m : Met s at o) where
  met_left : ops_of (drop at s) ≡ option_map (λ ops. op_as o.kind o.key.now o.value.now ∷ ops) (ops_of (drop o.next s))
  met_left =
      let a = m.holds in
      let b = m.inside in
      let l = length-drop at s in
      ops_on (drop at s) (omega arith) m.op
      ∙ ap (λ (t : Bytes). option_map (λ ops. op_as o.kind o.key.now o.value.now ∷ ops) (ops_of t)) (drop-drop (op_size (drop at s)) at s ∙ ap (λ (x : ℕ). drop x s) (sym m.next_is))

pub found_is : (s : Bytes) (at : ℕ) (r : Option ListOp) → Visit s at r → Found (λ n. ops_of (drop n s)) (length s) at r
found_is s at None e =
    record {
      over = λ h. ops_empty (drop at s) (omega (arith, length-drop at s));
      broken = λ h. ops_off (drop at s) (omega (arith, length-drop at s)) e;
    }
found_is s at (Some o) m =
    record { given = record { first = met_left m; bare = m.bare }; on = omega (arith, m.holds); inside = m.inside }

-- ---- a turn of a walk, of which the source and the place are known

module _ {S : Type 0} (left : S → ℕ → Option (List Op)) (size : S → ℕ) {i j : OpWalk S} {s : S} {at : ℕ} where
  pub step_at : {o : ListOp} → Steps (left i.source.now) (size i.source.now) i (Some o) j → i.source.now ≡ s → i.at ≡ at → Op-at (left s) (size s) at o
  step_at {o} h es ea = subst (λ (n : ℕ). Op-at (left s) (size s) n o) ea (subst (λ (s : S). Op-at (left s) (size s) i.at o) es h.visit)

  pub step_over : Steps (left i.source.now) (size i.source.now) i None j → i.source.now ≡ s → i.at ≡ at → None-at (left s) (size s) at
  step_over h es ea = subst (λ (n : ℕ). None-at (left s) (size s) n) ea (subst (λ (s : S). None-at (left s) (size s) i.at) es h.visit)

-- ---- the whole of a source

-- so many operations passed, and those that are left
abbrev pub counted : ℕ → Option (List Op) → Option ℕ
counted n None = None
counted n (Some ops) = Some (n + length ops)

counted_more : (n : ℕ) (op : Op) (o : Option (List Op)) → counted n (option_map (λ ops. op ∷ ops) o) ≡ counted (n + 1) o
counted_more n op None = refl
counted_more n op (Some ops) = let e : n + length (op ∷ ops) ≡ n + 1 + length ops = omega arith in ap Some e

pub counted_none : (o : Option (List Op)) → shape_of o ≡ counted 0 o
counted_none None = refl
counted_none (Some ops) = let e : length ops ≡ 0 + length ops = omega arith in ap Some e

pub counted_on : {a b : Option (List Op)} {o : ListOp} (n : ℕ) → Given a b o → counted n a ≡ counted (n + 1) b
counted_on {b = b} n g = ap (counted n) g.first ∙ counted_more n _ b

module _ (left : ℕ → Option (List Op)) (size at n : ℕ) (v : None-at left size at) where
  pub counted_end : size ≤ at → counted n (left at) ≡ Some n
  counted_end h = ap (counted n) (v.over h) ∙ ap Some (add-zero n)

  pub counted_off : at < size → counted n (left at) ≡ None
  counted_off h = ap (counted n) (v.broken h)

-- what its shape says of what is lent
pub malformed_is : (o : Option (List Op)) → shape_of o ≡ None → o ≡ None
malformed_is None e = refl
malformed_is (Some ops) e = cc

pub listed_is : (o : Option (List Op)) {n : ℕ} → shape_of o ≡ Some n → (Listed o) × (n ≡ length (those o))
listed_is None e = let z : ◌≡◌ {A = ℕ} 0 1 = cc in absurd (omega arith)
listed_is (Some ops) {n} e = let q : length ops ≡ n = cc in (refl, sym q)

-- ---- a turn of a walk over a list of operations: what is left behind it

rest_of : (op : Op) (o : Option (List Op)) (l : List Op) → option_map (λ ops. op ∷ ops) o ≡ Some l → (Listed o) × (l ≡ op ∷ those o)
rest_of op None l e = let z : ◌≡◌ {A = ℕ} 0 1 = cc in absurd (omega arith)
rest_of op (Some b) l e = let q : op ∷ b ≡ l = cc in (refl, sym q)

module _ {a b : Option (List Op)} (w : Listed a) {o : ListOp} (g : Given a b o) where
  rest : (Listed b) × (those a ≡ op_as o.kind o.key.now o.value.now ∷ those b)
  rest = rest_of _ b (those a) (sym g.first ∙ w)

  pub walk_on : Listed b
  walk_on = rest.0

  pub walk_op : those a ≡ op_as o.kind o.key.now o.value.now ∷ those b
  walk_op = rest.1

some_nil : (o : Option (List Op)) → o ≡ Some [] → those o ≡ []
some_nil None e = refl
some_nil (Some l) e = cc

module _ {left : ℕ → Option (List Op)} {size at : ℕ} (w : Listed (left at)) (v : None-at left size at) where
  pub walk_over : those (left at) ≡ []
  walk_over =
      bool (leb size at) (λ t. some_nil _ (v.over (leb-true _ _ t)))
      (λ f. let q : None ≡ Some (those (left at)) = sym (v.broken (omega (arith, leb-false size at f))) ∙ w in
      let z : ◌≡◌ {A = ℕ} 0 1 = cc in absurd (omega arith))

-- an operation's tests, by its parts, are those of a put, as a delete of a list has no value
fault_as : (kind : OpKind) (k v : Bytes) → (kind ≡ K.Delete → v ≡ []) → op_fault (op_as kind k v) ≡ op_fault (Put k v)
unfolding op_as op_fault op_key op_value
fault_as K.Put k v b = refl
fault_as K.Delete k v b = ap (λ (x : Bytes). op_fault (Put k x)) (sym (b refl))

pub given_fault : {a b : Option (List Op)} {o : ListOp} → Given a b o → op_fault (op_as o.kind o.key.now o.value.now) ≡ op_fault (Put o.key.now o.value.now)
given_fault {o = o} g = fault_as o.kind _ _ g.bare
