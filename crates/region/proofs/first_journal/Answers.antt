use Rattle.std.proofs.Common.{refl, sym, ap, ◌∙◌, ℕ, drop}
use Rattle.definition.specs.Region.{items}
use Rattle.definition.specs.Recovery.{journal_keys}
use Rattle.definition.proofs.Image.{good_parts}
use Rattle.region.specs.Places.{first_of}
use Rattle.region.proofs.Answers.{turn_met, turn_over, trusts_turn, trusts_first, begun}
use Rattle.region.proofs.Journals.{journal_four, first_stop, first_hit, first_miss}
use Rattle.region.proofs.first_journal.Goals as goal

pub loop-place-init : goal.loop-place-init
loop-place-init c =
    let e = c.records_of-place-items.ensures in
    let f = c.into_iter-place-iterator.ensures.into_iter_gives in
    let b = begun e f in
    (trusts_first (good_parts _ c.requires).0 e f, tt, b.0, rw b.1 refl)

pub returns-then-is_journal-clause-key : goal.returns-then-is_journal-clause-key
returns-then-is_journal-clause-key c =
    let i = c.loop-place.invariant in
    let t = turn_met i.2 c.in-Some.ensures.steps.0 in
    sym (i.3 ∙ ap (λ (x : ℕ). first_of (journal_keys (items (drop x c.args.region.now)))) t.0 ∙ first_hit t.1 c.key-key.ensures c.is_journal.ensures c.if-is_journal.true)

pub returns-then-is_journal-clause-four : goal.returns-then-is_journal-clause-four
returns-then-is_journal-clause-four c = journal_four _ (sym c.is_journal.ensures ∙ c.if-is_journal.true)

pub loop-place-preserved : goal.loop-place-preserved
loop-place-preserved c =
    let i = c.loop-place.invariant in
    let s = c.in-Some.ensures.steps in
    let t = turn_met i.2 s.0 in (
      trusts_turn i.0 s,
      tt,
      s.1 ∙ i.2,
      i.3 ∙ ap (λ (x : ℕ). first_of (journal_keys (items (drop x c.args.region.now)))) t.0 ∙ first_miss t.1 c.key-key.ensures c.is_journal.ensures c.if-is_journal.false,
    )

pub returns-clause-key : goal.returns-clause-key
returns-clause-key c =
    let i = c.loop-place.invariant in
    sym (first_stop _ _ i.3 (turn_over i.2 c.in-None.ensures.steps.0))
