-- What stands at a place in a list of structs, as of a source of operations: those that its structs name from there on.
use mathlib.Core.Path.{◌≡◌, sym, ap, ap₂, ◌∙◌}
use mathlib.Core.Bool.{true, false}
use mathlib.Core.List.{List, ◌∷◌}
use Rattle.std.specs.Prelude.{Option, None, Some, option_map}
use Prim.Native.Nat.{ℕ, ◌+◌, ◌≤◌, ◌<◌}
use native.Mathlib.Omega.{arith}
use native.Mathlib.Numerals.{add-one}
use lib.ListN.{length, get_or, drop, drop_of_length-le}
use lib.Seq.{drop-cons}
use Rattle.definition.specs.Tools.{Bytes, opt}
use Rattle.definition.specs.Codec.{Op}
use Rattle.definition.specs.OperationList.{op_over, ops_over}
use Rattle.definition.proofs.Choices.{pick_yes, pick_no, opt_none, opt_some}
use Rattle.definition.specs.declared.BatchOp.{BatchOp}
use Rattle.codec.specs.Forms.{op_as}
use Rattle.batch.specs.declared.ListOp.{ListOp}
use Rattle.batch.specs.Forms.{Op-at, None-at}
use Rattle.pooled.specs.Parts.{part_at, is_op, kind_of}
use Rattle.pooled.proofs.Naming.{named_is, value_bare, op_over_is}

module _ (pool : Bytes) (os : List BatchOp) (at : ℕ) where
  abbrev left : ℕ → Option (List Op)
  left n = ops_over pool (drop n os)

  pub none_ended : length os ≤ at → None-at left (length os) at
  unfolding ops_over
  none_ended h = record { over = λ z. ap (ops_over pool) (drop_of_length-le os h); broken = λ z. absurd (omega arith) }

  module _ (h : at < length os) {o : BatchOp} (d : BatchOp) (e : o ≡ get_or os at d) where
    front : left at ≡ opt (op_over pool o) None (λ op. option_map (λ ops. op ∷ ops) (left (at + 1)))
    unfolding ops_over
    front =
        ap (ops_over pool) (drop-cons os at d h)
        ∙ ap₂ (λ (o : BatchOp) (n : ℕ). opt (op_over pool o) None (λ op. option_map (λ ops. op ∷ ops) (left n))) (sym e) (sym (add-one at))

    pub none_named : is_op pool o ≡ false → None-at left (length os) at
    none_named n = record { over = λ z. absurd (omega arith); broken = λ z. front ∙ opt_none _ _ (op_over_is pool o ∙ pick_no _ _ n) }

    pub op_named_at : is_op pool o ≡ true → (r : ListOp) → r.kind ≡ kind_of o → r.key.now ≡ part_at pool o.key_at o.key_len → r.value.now ≡ part_at pool o.value_at o.value_len
        → r.next ≡ at + 1 → Op-at left (length os) at r
    op_named_at y r ek en ev ex =
        record {
          given =
              record {
                first =
                    front ∙ opt_some _ _ (op_over_is pool o ∙ pick_yes _ _ y ∙ ap Some (sym (named_is pool o ek en ev)))
                    ∙ ap (λ (n : ℕ). option_map (λ ops. op_as r.kind r.key.now r.value.now ∷ ops) (left n)) (sym ex);
                bare = value_bare pool o y ek ev;
              };
          on = omega arith;
          inside = omega arith;
        }
