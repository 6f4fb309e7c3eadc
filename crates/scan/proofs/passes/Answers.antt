use mathlib.Core.Path.{refl, sym, ◌∙◌}
use native.Mathlib.Omega.{arith}
use Rattle.definition.proofs.Windows.{rising_strict}
use Rattle.windows.specs.Forms.{window_items}
use Rattle.windows.proofs.Windows.{record_size, window_length, turn_held, turn_at, turns_over}
use Rattle.scan.proofs.Writing.{pass_sane, writing_on, going_start, going_failed, going_stalled, going_writes, going_full, going_stops, going_finished, going_less, going_on}
use Rattle.scan.proofs.passes.Goals as goal

pub passes-init : goal.passes-init
passes-init c = (going_start _ _ _ _ _ _ c.requires.region_value c.requires.most_nonzero, refl)

pub pass-requires : goal.pass-requires
pass-requires c = record { region_value = c.requires.region_value; last_held = c.passes.invariant.0.held }

pub shape_of-out-in-Err : goal.shape_of-out-in-Err
shape_of-out-in-Err c = c.passes.invariant.0.same

pub returns-in-Err : goal.returns-in-Err
returns-in-Err c = going_failed c.passes.invariant.0 c.pass.ensures c.in-Err.is

pub advances-requires : goal.advances-requires
advances-requires c = record { sane = (pass_sane c.passes.invariant.0 c.pass.ensures c.in-Ok.is); last_held = c.passes.invariant.0.held }

pub loop-place-init : goal.loop-place-init
unfolding window_items
loop-place-init c = (going_writes c.passes.invariant.0 c.pass.ensures c.in-Ok.is c.advances.ensures, c.passes.invariant.1)

pub size-size-requires : goal.size-size-requires
size-size-requires c = let h = turn_held (pass_sane c.passes.invariant.0 c.pass.ensures c.in-Ok.is) c.loop-place-test.true in
    (omega (arith, h.short), omega (arith, h.small))

pub overflow_sub-out : goal.overflow_sub-out
overflow_sub-out c = omega (arith, c.loop-place.invariant.0.fits, c.loop-place.invariant.0.same)

pub put_place-requires : goal.put_place-requires
put_place-requires c = let h = turn_held (pass_sane c.passes.invariant.0 c.pass.ensures c.in-Ok.is) c.loop-place-test.true in
    let n = c.size-size.ensures ∙ sym (record_size h) in
    record { held = h; place_in_bounds = omega (arith, n, c.if-out-length.false, c.loop-place.invariant.0.fits, c.loop-place.invariant.0.same) }

pub overflow_add-length : goal.overflow_add-length
overflow_add-length c = omega (arith, c.if-out-length.false, c.loop-place.invariant.0.fits, c.loop-place.invariant.0.same, c.passes.invariant.0.same, c.well_formed)

pub overflow_add-count : goal.overflow_add-count
overflow_add-count c = omega (arith, c.loop-place.invariant.0.fewer, c.ranges)

pub loop-place-preserved : goal.loop-place-preserved
unfolding window_items
loop-place-preserved c = let g = (pass_sane c.passes.invariant.0 c.pass.ensures c.in-Ok.is) in
    let k = window_length g in
    (writing_on c.loop-place.invariant.0 (turn_at g c.loop-place-test.true) (c.size-size.ensures ∙ sym (record_size (turn_held g c.loop-place-test.true))) c.put_place.ensures c.out-1.given (omega arith) (omega (arith, c.if-out-length.false)) c.if-count-most.false, c.loop-place.invariant.1)

pub last_of-last-requires : goal.last_of-last-requires
last_of-last-requires c = record { sane = (pass_sane c.passes.invariant.0 c.pass.ensures c.in-Ok.is); last_held = c.passes.invariant.0.held }

pub passes-smaller : goal.passes-smaller
unfolding window_items
passes-smaller c = going_less c.passes.invariant.0 c.pass.ensures c.in-Ok.is c.advances.ensures c.if-not-advances.false c.loop-place.invariant.0 (turns_over (pass_sane c.passes.invariant.0 c.pass.ensures c.in-Ok.is) c.loop-place-test.false) rising_strict (omega arith) c.last_of-last.ensures

pub passes-preserved : goal.passes-preserved
unfolding window_items
passes-preserved c = (going_on c.passes.invariant.0 c.pass.ensures c.in-Ok.is c.advances.ensures c.if-not-advances.false c.loop-place.invariant.0 (turns_over (pass_sane c.passes.invariant.0 c.pass.ensures c.in-Ok.is) c.loop-place-test.false) rising_strict (omega arith) c.last_of-last.ensures, c.loop-place.invariant.1)

pub shape_of-out-then-not-advances : goal.shape_of-out-then-not-advances
shape_of-out-then-not-advances c = c.passes.invariant.0.same

pub returns-then-not-advances : goal.returns-then-not-advances
returns-then-not-advances c = going_stalled c.passes.invariant.0 c.pass.ensures c.in-Ok.is c.advances.ensures c.if-not-advances.true

pub shape_of-out-then-out-length : goal.shape_of-out-then-out-length
shape_of-out-then-out-length c = c.loop-place.invariant.0.same ∙ c.passes.invariant.0.same

pub returns-then-out-length : goal.returns-then-out-length
unfolding window_items
returns-then-out-length c = let g = (pass_sane c.passes.invariant.0 c.pass.ensures c.in-Ok.is) in
    going_full c.passes.invariant.0 c.pass.ensures c.in-Ok.is c.advances.ensures c.if-not-advances.false c.loop-place.invariant.0 (turn_at g c.loop-place-test.true) (c.size-size.ensures ∙ sym (record_size (turn_held g c.loop-place-test.true))) (omega (arith, c.if-out-length.true))

pub shape_of-out-then-count-most : goal.shape_of-out-then-count-most
shape_of-out-then-count-most c = c.out-1.given ∙ c.loop-place.invariant.0.same ∙ c.passes.invariant.0.same

pub returns-then-count-most : goal.returns-then-count-most
unfolding window_items
returns-then-count-most c = let g = (pass_sane c.passes.invariant.0 c.pass.ensures c.in-Ok.is) in
    let k = window_length g in
    going_stops c.passes.invariant.0 c.pass.ensures c.in-Ok.is c.advances.ensures c.if-not-advances.false c.loop-place.invariant.0 (turn_at g c.loop-place-test.true) (c.size-size.ensures ∙ sym (record_size (turn_held g c.loop-place-test.true))) c.put_place.ensures c.out-1.given (omega arith) (omega (arith, c.if-out-length.false)) c.if-count-most.true

pub shape_of-out-then-window-lt-SCAN_WINDOW : goal.shape_of-out-then-window-lt-SCAN_WINDOW
shape_of-out-then-window-lt-SCAN_WINDOW c = c.loop-place.invariant.0.same ∙ c.passes.invariant.0.same

pub returns-then-window-lt-SCAN_WINDOW : goal.returns-then-window-lt-SCAN_WINDOW
unfolding window_items
returns-then-window-lt-SCAN_WINDOW c = rw c.loop-place.invariant.1 (going_finished c.passes.invariant.0 c.pass.ensures c.in-Ok.is c.advances.ensures c.if-not-advances.false c.loop-place.invariant.0 (turns_over (pass_sane c.passes.invariant.0 c.pass.ensures c.in-Ok.is) c.loop-place-test.false) (omega (arith, c.if-window-lt-SCAN_WINDOW.true)))
