use borrow.Author.Rules.{rules, Fits-under}
use mathlib.Core.Path.{◌≡◌, refl, ◌∙◌}
use Prim.Native.Nat.{◌+◌, ◌≤◌, ◌<◌}
use native.Mathlib.Omega.{arith}
use lib.ListN.{length}
use Rattle.definition.specs.Region.{Item, item, span_of, items, room}
use Rattle.definition.proofs.Records.{bounded}
use Rattle.definition.proofs.Image.{used_fits, good_parts}
use Rattle.region.proofs.Walks.{user_small}
use Rattle.region.proofs.Finding.{short_found, room_found}
use Rattle.region.proofs.Holding.{used_is, takes_within}
use Rattle.region.proofs.Changing.{room_is, stores_nothing, fits, stores}
use mathlib.Core.Path.{ap}
use mathlib.Core.Bool.{not}
use Rattle.region.proofs.store.Goals as goal

pub survey-found-requires : goal.survey-found-requires
survey-found-requires c = (good_parts _ c.requires.region_value).0

pub old_span-old-requires : goal.old_span-old-requires
old_span-old-requires c = short_found _ _ _ c.survey-found.ensures.found

pub span-new-requires : goal.span-new-requires
span-new-requires c = let b = bounded _ _ c.requires.value_value in search rules

pub has_room-requires : goal.has_room-requires
has_room-requires c = let u = used_is _ c.survey-found.ensures.space in
    let o = room_found _ _ _ c.survey-found.ensures.found c.old_span-old.ensures in
    (omega (arith, u, o), omega (arith, u, used_fits c.args.region.now))

pub returns-then-not-has_room : goal.returns-then-not-has_room
unfolding span_of
returns-then-not-has_room c =
    let new : Item = item c.args.key.now c.args.value.now in
    let ruled : let s = c.args.region.now in c.has_room.result ≡ room (length s) new (items s) = c.has_room.ensures
    ∙ room_is _ new _ _ (used_is _ c.survey-found.ensures.space) (room_found _ _ _ c.survey-found.ensures.found c.old_span-old.ensures) c.span-new.ensures in
    stores_nothing _ new c.requires.region_value c.requires.value_value ruled (ap not c.if-not-has_room.true)

pub put_record-requires : goal.put_record-requires
unfolding span_of
put_record-requires c =
    let new : Item = item c.args.key.now c.args.value.now in
    let ruled : let s = c.args.region.now in c.has_room.result ≡ room (length s) new (items s) = c.has_room.ensures
    ∙ room_is _ new _ _ (used_is _ c.survey-found.ensures.space) (room_found _ _ _ c.survey-found.ensures.found c.old_span-old.ensures) c.span-new.ensures in
    let b = bounded _ _ c.requires.value_value in
    record { key_len_bound = search rules; value_in_bounds = fits _ new c.requires.region_value c.requires.value_value ruled (ap not c.if-not-has_room.false) c.drop_found-kept.ensures refl }

pub overflow_add-used : goal.overflow_add-used
unfolding span_of
overflow_add-used c =
    let new : Item = item c.args.key.now c.args.value.now in
    let ruled : let s = c.args.region.now in c.has_room.result ≡ room (length s) new (items s) = c.has_room.ensures
    ∙ room_is _ new _ _ (used_is _ c.survey-found.ensures.space) (room_found _ _ _ c.survey-found.ensures.found c.old_span-old.ensures) c.span-new.ensures in
    let fitting : c.drop_found-kept.result.used + c.span-new.result ≤ length c.drop_found-kept.new.region = fits _ new c.requires.region_value c.requires.value_value ruled (ap not c.if-not-has_room.false) c.drop_found-kept.ensures c.span-new.ensures in
    let f = fitting in search rules

pub overflow_sub-result : goal.overflow_sub-result
unfolding span_of
overflow_sub-result c =
    let new : Item = item c.args.key.now c.args.value.now in
    let ruled : let s = c.args.region.now in c.has_room.result ≡ room (length s) new (items s) = c.has_room.ensures
    ∙ room_is _ new _ _ (used_is _ c.survey-found.ensures.space) (room_found _ _ _ c.survey-found.ensures.found c.old_span-old.ensures) c.span-new.ensures in
    let fitting : c.drop_found-kept.result.used + c.span-new.result ≤ length c.drop_found-kept.new.region = fits _ new c.requires.region_value c.requires.value_value ruled (ap not c.if-not-has_room.false) c.drop_found-kept.ensures c.span-new.ensures in
    let f = fitting in search rules

pub overflow_add-result : goal.overflow_add-result
unfolding span_of
overflow_add-result c =
    let new : Item = item c.args.key.now c.args.value.now in
    let ruled : let s = c.args.region.now in c.has_room.result ≡ room (length s) new (items s) = c.has_room.ensures
    ∙ room_is _ new _ _ (used_is _ c.survey-found.ensures.space) (room_found _ _ _ c.survey-found.ensures.found c.old_span-old.ensures) c.span-new.ensures in
    let fitting : c.drop_found-kept.result.used + c.span-new.result ≤ length c.drop_found-kept.new.region = fits _ new c.requires.region_value c.requires.value_value ruled (ap not c.if-not-has_room.false) c.drop_found-kept.ensures c.span-new.ensures in
    let countable : c.drop_found-kept.result.takes < 9223372036854775808 = let f = fitting in let t = takes_within _ c.drop_found-kept.ensures.space in search rules in
    let t = countable in
    let u = user_small _ c.user_count.ensures in
    let l : c.drop_found-kept.result.takes + c.user_count.result < 18446744073709551616 = omega arith in
    Fits-under _ _ _ l tt

pub returns : goal.returns
unfolding span_of
returns c =
    let new : Item = item c.args.key.now c.args.value.now in
    let ruled : let s = c.args.region.now in c.has_room.result ≡ room (length s) new (items s) = c.has_room.ensures
    ∙ room_is _ new _ _ (used_is _ c.survey-found.ensures.space) (room_found _ _ _ c.survey-found.ensures.found c.old_span-old.ensures) c.span-new.ensures in
    stores _ new c.requires.region_value c.requires.value_value ruled (ap not c.if-not-has_room.false) c.drop_found-kept.ensures
    c.put_record.ensures c.span-new.ensures c.user_count.ensures
