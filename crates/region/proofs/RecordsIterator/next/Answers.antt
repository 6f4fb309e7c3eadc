use Rattle.std.proofs.Common.{rules, sym, ◌∙◌}
use Rattle.region.specs.Places.{Met, end_of}
use Rattle.region.proofs.Answers.{met_item, trusts_on}
use Rattle.region.proofs.RecordsIterator.next.Goals.{then-this-ne0, else-this-ne0}
use Rattle.region.proofs.RecordsIterator.next.Goals as goal

pub returns-clause-goes : goal.returns-clause-goes
returns-clause-goes g c =
    let p = c.in_ok-place.place in
    let s = c.args.self.now in
    let found : Met s.region.now s.at p.klen p.vlen (end_of p) =
    elim c.if-this-ne0.branch [ then-this-ne0 w ↦ met_item w.next_whole-met.ensures (sym w.met-is ∙ c.in_ok-place.was) | else-this-ne0 w ↦ met_item w.next_item-met.ensures (sym w.met-is ∙ c.in_ok-place.was) ] in
    let m = found in
    let t = trusts_on _ c.requires m in
    let e = c.end-self.ensures in
    search rules
