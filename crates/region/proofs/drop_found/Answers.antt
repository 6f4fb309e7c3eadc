use borrow.Author.Rules.{rules}
use mathlib.Core.Path.{◌≡◌, sym, ◌∙◌}
use Prim.Native.Nat.{◌≤◌}
use lib.ListN.{length}
use Rattle.definition.specs.Region.{items}
use Rattle.region.specs.Places.{place_of}
use Rattle.definition.specs.Space.{user_count}
use Rattle.std.specs.Prelude.{Some}
use Rattle.region.proofs.Finding.{located}
use Rattle.region.proofs.Changing.{removes, removes_nothing, enough, before_tail}
use Rattle.region.proofs.drop_found.Goals as goal

pub returns-in_default : goal.returns-in_default
returns-in_default c = let p = c.requires in removes_nothing _ _ p.region_value p.before_value (sym p.found_value ∙ c.in_default.is)

pub span-old-requires : goal.span-old-requires
span-old-requires c =
    let found : place_of 0 c.args.key.now (items c.args.region.now) ≡ Some c.in-Some.place = sym c.requires.found_value ∙ c.in-Some.is in
    let m = (located _ _ _ found).met in search rules

pub cut-requires : goal.cut-requires
cut-requires c =
    let found : place_of 0 c.args.key.now (items c.args.region.now) ≡ Some c.in-Some.place = sym c.requires.found_value ∙ c.in-Some.is in
    let covered : let a = c.args in
    (c.span-old.result ≤ a.before.used) × (a.before.used ≤ length a.region.now) × (user_count a.key.now ≤ a.before.takes) = let p = c.requires in enough _ _ p.region_value _ found c.span-old.ensures p.before_value in
    let p = c.requires in
    let t = before_tail _ _ p.region_value _ found c.span-old.ensures p.before_value in
    record { n_bound = (t.0, covered.1); region_value = t.1 }

pub overflow_sub-end : goal.overflow_sub-end
overflow_sub-end c =
    let found : place_of 0 c.args.key.now (items c.args.region.now) ≡ Some c.in-Some.place = sym c.requires.found_value ∙ c.in-Some.is in
    let covered : let a = c.args in
    (c.span-old.result ≤ a.before.used) × (a.before.used ≤ length a.region.now) × (user_count a.key.now ≤ a.before.takes) = let p = c.requires in enough _ _ p.region_value _ found c.span-old.ensures p.before_value in
    covered.0

pub overflow_sub-result : goal.overflow_sub-result
overflow_sub-result c =
    let found : place_of 0 c.args.key.now (items c.args.region.now) ≡ Some c.in-Some.place = sym c.requires.found_value ∙ c.in-Some.is in
    let covered : let a = c.args in
    (c.span-old.result ≤ a.before.used) × (a.before.used ≤ length a.region.now) × (user_count a.key.now ≤ a.before.takes) = let p = c.requires in enough _ _ p.region_value _ found c.span-old.ensures p.before_value in
    let z = covered in search rules

pub overflow_sub-result-2 : goal.overflow_sub-result-2
overflow_sub-result-2 c =
    let found : place_of 0 c.args.key.now (items c.args.region.now) ≡ Some c.in-Some.place = sym c.requires.found_value ∙ c.in-Some.is in
    let covered : let a = c.args in
    (c.span-old.result ≤ a.before.used) × (a.before.used ≤ length a.region.now) × (user_count a.key.now ≤ a.before.takes) = let p = c.requires in enough _ _ p.region_value _ found c.span-old.ensures p.before_value in
    let z = covered in let u = c.user_count.ensures in search rules

pub returns : goal.returns
returns c =
    let found : place_of 0 c.args.key.now (items c.args.region.now) ≡ Some c.in-Some.place = sym c.requires.found_value ∙ c.in-Some.is in
    let p = c.requires in
    removes _ _ p.region_value _ found c.span-old.ensures p.before_value c.user_count.ensures c.cut.ensures
