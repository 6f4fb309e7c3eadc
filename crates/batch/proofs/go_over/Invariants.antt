use Rattle.std.proofs.Common.{◌≡◌, length}
use Rattle.oplist.specs.Places.{those}
use Rattle.batch.specs.Forms.{Tested}
use Rattle.batch.proofs.Walking.{Each}
use Rattle.batch.proofs.go_over.Given as goal

abbrev pub invariant-loop-op : goal.invariant-loop-op
invariant-loop-op g l =
    let left = g.S.OpSource.left l.source in
    record {
      over : l.op-iterator.source.now ≡ l.source;
      long : length l.region ≡ length l.initial.region;
      tested : Tested (left l.op-iterator.at) l.index;
      so_far : Each g.P.Pass.run (those (left 0)) l.initial.region l.script l.initial.step (those (left l.op-iterator.at)) l.index l.region l.step;
    }
