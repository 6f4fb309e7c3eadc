-- Operation structs as the code takes them: first tested, then read. `pooled/proofs/Naming` has that this is the
-- definition's list.
use Rattle.std.specs.Prelude.{Bool, true, false, List, [], ◌∷◌, ℕ, ◌+◌, length, take, drop, eqb, leb}
use Rattle.definition.specs.Tools.{Bytes, pick}
use Rattle.definition.specs.Codec.{Op, Put, Delete}
use Rattle.definition.specs.OperationList.{put_kind, delete_kind}
use Rattle.definition.specs.declared.BatchOp.{BatchOp}
use Rattle.codec.specs.declared.OpKind.{OpKind}
use Rattle.codec.specs.declared.OpKind.TheVariants as K

-- ---- the tests

unfoldable pub inside : Bytes → ℕ → ℕ → Bool
inside pool at len = leb (at + len) (length pool)

unfoldable pub is_kind : BatchOp → Bool
is_kind o = pick (eqb o.kind put_kind) true (pick (eqb o.kind delete_kind) (eqb o.value_len 0) false)

unfoldable pub is_op : Bytes → BatchOp → Bool
is_op pool o =
    pick (inside pool o.key_at o.key_len)
    (pick (inside pool o.value_at o.value_len) (is_kind o) false) false

unfoldable pub are_ops : Bytes → List BatchOp → Bool
are_ops pool [] = true
are_ops pool (o ∷ os) = pick (is_op pool o) (are_ops pool os) false

-- ---- what passed them

unfoldable pub kind_of : BatchOp → OpKind
kind_of o = pick (eqb o.kind put_kind) K.Put K.Delete

unfoldable pub part_at : Bytes → ℕ → ℕ → Bytes
part_at pool at len = take len (drop at pool)

unfoldable pub op_named : Bytes → BatchOp → Op
op_named pool o =
    pick (eqb o.kind put_kind)
    (Put (part_at pool o.key_at o.key_len) (part_at pool o.value_at o.value_len))
    (Delete (part_at pool o.key_at o.key_len))

unfoldable pub ops_named : Bytes → List BatchOp → List Op
ops_named pool [] = []
ops_named pool (o ∷ os) = op_named pool o ∷ ops_named pool os
