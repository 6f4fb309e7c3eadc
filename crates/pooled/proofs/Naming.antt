-- What the tests of an operation struct say, and the operation that it names by the parts that the code hands on; and
-- that tests and parts together are the definition's list.
use mathlib.Core.Path.{◌≡◌, refl, sym, ap, ap₂, ◌∙◌}
use mathlib.Core.Bool.{Bool, true, false}
use mathlib.Core.List.{List, [], ◌∷◌}
use Rattle.std.specs.Prelude.{Option, None, Some, option_map}
use Prim.Native.Nat.{ℕ, ◌+◌, ◌≤◌}
use lib.ListN.{length, take, drop}
use lib.Dec.{eqb}
use borrow.Author.Tests.{leb-true, eqb-true}
use Rattle.definition.specs.Tools.{Bytes, pick, opt}
use Rattle.definition.specs.Codec.{Op, Put, Delete}
use Rattle.definition.specs.OperationList.{put_kind, part_of, op_over, ops_over}
use Rattle.definition.proofs.Choices.{pick_yes, pick_no, both, bool}
use Rattle.definition.specs.declared.BatchOp.{BatchOp}
use Rattle.codec.specs.declared.OpKind.{OpKind}
use Rattle.codec.specs.declared.OpKind.TheVariants as K
use Rattle.codec.specs.Forms.{op_as}
use Rattle.pooled.specs.Parts.{part_at, inside, is_kind, is_op, are_ops, kind_of, op_named, ops_named}

-- ---- a part

module _ (pool : Bytes) (at len : ℕ) where
  pub part_fits : inside pool at len ≡ true → at + len ≤ length pool
  unfolding inside
  part_fits e = leb-true _ _ e

-- ---- what passed the tests

module _ (pool : Bytes) (o : BatchOp) where
  module _ (h : is_op pool o ≡ true) where
    tests : (inside pool o.key_at o.key_len ≡ true) × ((inside pool o.value_at o.value_len ≡ true) × (is_kind o ≡ true))
    unfolding is_op
    tests =
        let a = both _ _ h in
        let b = both _ _ a.1 in
        (a.0, (b.0, b.1))

    pub key_fits : o.key_at + o.key_len ≤ length pool
    key_fits = part_fits pool _ _ tests.0

    pub value_fits : o.value_at + o.value_len ≤ length pool
    value_fits = part_fits pool _ _ tests.1.0

-- ---- the operation, by the kind and the parts that the code hands on

module _ (pool : Bytes) (o : BatchOp) {kind : OpKind} {kp vp : Bytes} (e : kind ≡ kind_of o)
    (ek : kp ≡ part_at pool o.key_at o.key_len) (ev : vp ≡ part_at pool o.value_at o.value_len) where
  pub named_is : op_as kind kp vp ≡ op_named pool o
  unfolding op_as op_named kind_of
  named_is =
      ap (λ (k : OpKind). op_as k kp vp) e
      ∙ bool (eqb o.kind put_kind)
      (λ t. ap (λ (k : OpKind). op_as k kp vp) (pick_yes K.Put K.Delete t) ∙ ap₂ Put ek ev ∙ sym (pick_yes _ _ t))
      (λ f. ap (λ (k : OpKind). op_as k kp vp) (pick_no K.Put K.Delete f) ∙ ap Delete ek ∙ sym (pick_no _ _ f))

-- a delete's value part is empty
module _ (pool : Bytes) (o : BatchOp) (h : is_op pool o ≡ true) where
  bare : eqb o.kind put_kind ≡ false → o.value_len ≡ 0
  unfolding is_kind
  bare f = eqb-true _ _ (both _ _ (sym (pick_no _ _ f) ∙ (tests pool o h).1.1)).1

  pub value_bare : {kind : OpKind} {vp : Bytes} → kind ≡ kind_of o → vp ≡ part_at pool o.value_at o.value_len → kind ≡ K.Delete → vp ≡ []
  unfolding kind_of part_at
  value_bare e ev d =
      bool (eqb o.kind put_kind)
      (λ t. let z : K.Put ≡ K.Delete = sym (pick_yes K.Put K.Delete t) ∙ sym e ∙ d in cc)
      (λ f. ev ∙ ap (λ (n : ℕ). take n (drop o.value_at pool)) (bare f))

-- ---- tested, then read: the definition's list

-- the tests of the key's part, the value's part and the kind, one behind the other
one_law : (a b c d e : Bool) (k v : Bytes)
    → opt (pick a (Some k) None) None (λ x. opt (pick b (Some v) None) None
    (λ y. pick c (Some (Put x y)) (pick d (pick e (Some (Delete x)) None) None)))
    ≡ pick (pick a (pick b (pick c true (pick d e false)) false) false) (Some (pick c (Put k v) (Delete k))) None
unfolding pick opt
one_law false b c d e k v = refl
one_law true false c d e k v = refl
one_law true true true d e k v = refl
one_law true true false false e k v = refl
one_law true true false true true k v = refl
one_law true true false true false k v = refl

all_law : (a b : Bool) (op : Op) (ops : List Op)
    → opt (pick a (Some op) None) None (λ x. option_map (λ xs. x ∷ xs) (pick b (Some ops) None)) ≡ pick (pick a b false) (Some (op ∷ ops)) None
unfolding pick opt
all_law false b op ops = refl
all_law true true op ops = refl
all_law true false op ops = refl

pub op_over_is : (pool : Bytes) (o : BatchOp) → op_over pool o ≡ pick (is_op pool o) (Some (op_named pool o)) None
unfolding op_over part_of is_op inside is_kind op_named part_at
op_over_is pool o = one_law _ _ _ _ _ _ _

pub ops_over_is : (pool : Bytes) (os : List BatchOp) → ops_over pool os ≡ pick (are_ops pool os) (Some (ops_named pool os)) None
unfolding ops_over are_ops ops_named pick
ops_over_is pool [] = refl
ops_over_is pool (o ∷ os) =
    ap₂ (λ (x : Option Op) (xs : Option (List Op)). opt x None (λ op. option_map (λ ops. op ∷ ops) xs)) (op_over_is pool o) (ops_over_is pool os)
    ∙ all_law (is_op pool o) (are_ops pool os) (op_named pool o) (ops_named pool os)
