use mathlib.Core.Path.{◌≡◌}
use lib.ListN.{length}
use Rattle.std.specs.Prelude.{Ok}
use Rattle.definition.specs.Region.{items}
use Rattle.definition.specs.Scan.{rising}
use Rattle.definition.specs.declared.ScanEnd.TheVariants.{Finished}
use Rattle.windows.specs.Forms.{last_key, place_items}
use Rattle.definition.proofs.Windows.{sorted, above}
use Rattle.scan.proofs.Writing.{Writing, Going}
use Rattle.scan.proofs.passes.Given as goal

abbrev pub invariant-loop-place : goal.invariant-loop-place
invariant-loop-place l = Writing l.most (place_items l.region l.place-items) l.initial.out l.initial.count l.initial.length l.out l.count l.length l.place-index × (l.end ≡ Ok Finished)

abbrev pub invariant-passes : goal.invariant-passes
invariant-passes l = Going rising l.region l.script l.prefix l.most l.initial.out l.initial.step l.out l.step l.count l.length l.last × (l.end ≡ Ok Finished)

abbrev pub decreases-passes : goal.decreases-passes
decreases-passes l = lib.ListN.length (above rising (last_key l.region l.last) (sorted rising l.prefix (items l.region)))
