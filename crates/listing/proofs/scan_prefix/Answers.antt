use Rattle.std.proofs.Common.{sym, ap, ◌∙◌}
use Rattle.definition.specs.declared.Scanned.{Scanned}
use Rattle.gate.specs.Forms.{unchanged_of, reply_of}
use Rattle.listing.proofs.Listing.{scan_bad, scan_unready, scan_listed}
use Rattle.listing.proofs.scan_prefix.Goals as goal

pub returns-then-not-is_good : goal.returns-then-not-is_good
returns-then-not-is_good c =
    scan_bad _ _ _ _ _ _ c.is_good.ensures c.if-not-is_good.true (c.unchanged.ensures ∙ ap (λ (a : Scanned). unchanged_of a c.args.state) c.unlisted.ensures)

pub ready-requires : goal.ready-requires
ready-requires c = sym c.is_good.ensures ∙ c.if-not-is_good.false

pub returns-in-Err : goal.returns-in-Err
returns-in-Err c =
    scan_unready _ _ _ _ c.args.state _ c.is_good.ensures c.if-not-is_good.false c.ready.ensures c.in-Err.is
    (c.reply.ensures ∙ ap (λ (a : Scanned). reply_of a c.args.state.health c.in-Err.failed.step) c.unlisted-in-Err.ensures)

pub returns-in-Ok : goal.returns-in-Ok
returns-in-Ok c = scan_listed _ _ _ _ c.args.state _ c.is_good.ensures c.if-not-is_good.false c.ready.ensures c.in-Ok.is c.scan_from-listing.ensures c.reply_of.ensures
