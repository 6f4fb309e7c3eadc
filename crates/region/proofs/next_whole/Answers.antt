use mathlib.Core.Path.{refl}
use Rattle.region.proofs.Heads.{is_short}
use Rattle.region.proofs.Trusting.{tail_there, record_there}
use Rattle.region.proofs.next_whole.Goals as goal

pub returns-then-left-lt-HEAD_SIZE : goal.returns-then-left-lt-HEAD_SIZE
returns-then-left-lt-HEAD_SIZE c = record { is = is_short c.args.region.now c.args.at c.saturating_sub-left.ensures c.if-left-lt-HEAD_SIZE.true }

pub returns-then-klen-eq-NO_KEY_LEN : goal.returns-then-klen-eq-NO_KEY_LEN
returns-then-klen-eq-NO_KEY_LEN c = let a = c.args in
    record { is = tail_there a.region.now a.at c.wide-klen.ensures.0 c.if-klen-eq-NO_KEY_LEN.true }

pub returns : goal.returns
returns c =
    record {
      is = (
        refl,
        record_there c.args.region.now c.args.at c.wide-klen.ensures.0 c.saturating_sub-left.ensures c.le16_at-vlen.ensures.0 c.requires
            c.if-left-lt-HEAD_SIZE.false c.if-klen-eq-NO_KEY_LEN.false refl,
      );
    }
