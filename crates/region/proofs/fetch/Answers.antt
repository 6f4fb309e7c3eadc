use Rattle.std.proofs.Common.{rules, sym, ap, ◌∙◌, arith}
use Rattle.std.specs.Prelude.{option_map}
use Rattle.definition.proofs.Image.{good_parts}
use Rattle.region.proofs.Finding.{located, fetched_nothing}
use Rattle.region.proofs.Walks.{met_value_length}
use Rattle.region.proofs.fetch.Goals as goal

pub find-requires : goal.find-requires
find-requires c = (good_parts _ c.requires).0

pub returns-in_err-place-clause-value : goal.returns-in_err-place-clause-value
returns-in_err-place-clause-value c = ap (option_map (λ v. v.now)) c.from_residual.ensures ∙ sym (fetched_nothing _ _ (sym c.find.ensures ∙ c.in_err-place.was))

pub value-requires : goal.value-requires
value-requires c = let m = (located _ _ _ (sym c.find.ensures ∙ c.in_ok-place.was)).met in search rules

pub returns-clause-value : goal.returns-clause-value
returns-clause-value c =
    let l = located _ _ _ (sym c.find.ensures ∙ c.in_ok-place.was) in
    let e = c.value.ensures in
    rw e (sym l.value_is)

pub returns-clause-short : goal.returns-clause-short
returns-clause-short c =
    let m = (located _ _ _ (sym c.find.ensures ∙ c.in_ok-place.was)).met in
    let e = met_value_length m in
    let s = m.small in
    let v = c.value.ensures in
    rw v (omega arith)
