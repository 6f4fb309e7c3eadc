use mathlib.Core.Path.{refl, sym}
use Prim.Native.Nat.{◌+◌}
use Prim.Native.Nat.{ℕ}
use Rattle.definition.specs.Tools.{Bytes}
use Rattle.region.proofs.Heads.{is_short, is_refused, is_torn, is_cut, is_record}
use mathlib.Core.Path.{ap}
use mathlib.Core.Bool.{not}
use Rattle.region.proofs.next_item.Goals as goal

pub returns-then-left-lt-HEAD_SIZE : goal.returns-then-left-lt-HEAD_SIZE
returns-then-left-lt-HEAD_SIZE c =
    let bytes : Bytes = c.args.region.now in
    let at : ℕ = c.args.at in
    record { is = is_short bytes at c.saturating_sub-left.ensures c.if-left-lt-HEAD_SIZE.true }

pub returns-then-not-is_allowed : goal.returns-then-not-is_allowed
returns-then-not-is_allowed c =
    let bytes : Bytes = c.args.region.now in
    let at : ℕ = c.args.at in
    record { is = is_refused bytes at c.saturating_sub-left.ensures c.wide-klen.ensures.0 c.le16_at-vlen.ensures.0 c.is_allowed.ensures (ap not c.if-not-is_allowed.true) }

pub returns-then-not-agrees : goal.returns-then-not-agrees
returns-then-not-agrees c =
    let bytes : Bytes = c.args.region.now in
    let at : ℕ = c.args.at in
    record {
      is =
          is_torn bytes at c.saturating_sub-left.ensures c.wide-klen.ensures.0 c.le16_at-vlen.ensures.0
          c.is_allowed.ensures (ap not c.if-not-is_allowed.false) c.agrees.ensures (ap not c.if-not-agrees.true);
    }

pub returns-then-left-span : goal.returns-then-left-span
returns-then-left-span c =
    let bytes : Bytes = c.args.region.now in
    let at : ℕ = c.args.at in
    record {
      is =
          is_cut bytes at c.saturating_sub-left.ensures c.wide-klen.ensures.0 c.le16_at-vlen.ensures.0
          c.is_allowed.ensures (ap not c.if-not-is_allowed.false) c.agrees.ensures (ap not c.if-not-agrees.false) c.span.ensures c.if-left-span.true;
    }

pub returns : goal.returns
returns c =
    let bytes : Bytes = c.args.region.now in
    let at : ℕ = c.args.at in
    record {
      is = (
        refl,
        is_record bytes at c.saturating_sub-left.ensures c.wide-klen.ensures.0 c.le16_at-vlen.ensures.0
            c.is_allowed.ensures (ap not c.if-not-is_allowed.false) c.agrees.ensures (ap not c.if-not-agrees.false) c.span.ensures
            c.if-left-lt-HEAD_SIZE.false c.if-left-span.false (ap (λ x. at + x) (sym c.span.ensures)),
      );
    }
