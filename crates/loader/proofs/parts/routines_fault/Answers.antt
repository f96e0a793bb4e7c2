use Rattle.std.proofs.Common.{◌≡◌, ◌<◌, ◌+◌, Some, None, length, arith, refl, sym, ap, ◌∙◌, map}
use Rattle.std.specs.Prelude.{nat_eq, slice_get}
use Rattle.std.proofs.lemmas.Option.{slice_get_read}
use Rattle.image.specs.Raw.{routine_of}
use Rattle.base.specs.Capped.{cap}
use Rattle.loader_code.specs.TreesTold.{found_of, known_of}
use Rattle.loader_code.specs.Whole.{stay_in}
use Rattle.valid_image.specs.Found.{guard}
use Rattle.valid_image.specs.Tables.{monitor_of, routine_found}
use Rattle.valid_image_law.specs.Held.{hold}
use Rattle.loader.proofs.Shaping.{stops}
use Rattle.loader.proofs.Kept.{on, all_kept, none_wrong}
use Rattle.loader.proofs.parts.routines_fault.Goals as goal

pub returns-in-None-clause-fault : goal.returns-in-None-clause-fault
returns-in-None-clause-fault c =
    let raw = c.args.raw.now in
    let parts = c.loop-routine.parts in
    let r = c.loop-routine.routine-index in
    let x = c.routine-item.result in
    let items = c.as_slice-routine-items.ensures in
    let within : r < length c.as_slice-routine-items.result.now = omega arith in
    let low : r < length raw.routines = omega (arith, within, ap length items) in
    let is : slice_get raw.routines r ≡ Some x = ap (λ xs. slice_get xs r) (sym items) ∙ slice_get_read c.as_slice-routine-items.result.now _ r x refl within c.routine-item.is in
    let none : None ≡ hold (guard (nat_eq x.start parts.end) (routine_found raw.code (map known_of parts.known) (routine_of x))) =
    c.in-None.ensures.value ∙ ap (λ code. hold (guard (nat_eq x.start parts.end) (routine_found code (map known_of c.as_slice-in-loop-routine.result.now) (routine_of x)))) c.as_slice.ensures
    ∙ ap (λ ks. hold (guard (nat_eq x.start parts.end) (routine_found raw.code (map known_of ks) (routine_of x)))) c.as_slice-in-loop-routine.ensures in
    c.wrong_from.ensures ∙ stops raw parts r x c.loop-routine.invariant.before low is none

pub loop-routine-preserved : goal.loop-routine-preserved
loop-routine-preserved c =
    let raw = c.args.raw.now in
    let parts = c.loop-routine.parts in
    let r = c.loop-routine.routine-index in
    let x = c.routine-item.result in
    let part = c.in-Some.part in
    let items = c.as_slice-routine-items.ensures in
    let within : r < length c.as_slice-routine-items.result.now = omega arith in
    let is : slice_get raw.routines r ≡ Some x = ap (λ xs. slice_get xs r) (sym items) ∙ slice_get_read c.as_slice-routine-items.result.now _ r x refl within c.routine-item.is in
    let some : Some (found_of part.found) ≡ hold (guard (nat_eq x.start parts.end) (routine_found raw.code (map known_of parts.known) (routine_of x))) =
    c.in-Some.ensures.value ∙ ap (λ code. hold (guard (nat_eq x.start parts.end) (routine_found code (map known_of c.as_slice-in-loop-routine.result.now) (routine_of x)))) c.as_slice.ensures
    ∙ ap (λ ks. hold (guard (nat_eq x.start parts.end) (routine_found raw.code (map known_of ks) (routine_of x)))) c.as_slice-in-loop-routine.ensures in
    let stay : part.stay ≡ cap (stay_in (monitor_of (routine_of x)) (routine_found raw.code (map known_of parts.known) (routine_of x))) =
    c.in-Some.ensures.stay ∙ ap (λ code. cap (stay_in (monitor_of (routine_of x)) (routine_found code (map known_of c.as_slice-in-loop-routine.result.now) (routine_of x)))) c.as_slice.ensures
    ∙ ap (λ ks. cap (stay_in (monitor_of (routine_of x)) (routine_found raw.code (map known_of ks) (routine_of x)))) c.as_slice-in-loop-routine.ensures in
    let inside : part.found.next < length raw.code = omega (arith, c.in-Some.ensures.within, ap length c.as_slice.ensures) in
    record {
      before = on raw parts (record { known = c.push.new.self; routines = c.push-in-loop-routine.new.self; processes = parts.processes; end = part.found.next + 1 }) r x part c.known_routine.result c.loop-routine.invariant.before is some
          c.in-Some.ensures.ends inside stay c.known_routine.ensures c.in_ok-push.ensures.ok c.in_ok-push-2.ensures.ok refl;
      processes = c.loop-routine.invariant.processes;
    }

pub returns-clause-kept : goal.returns-clause-kept
returns-clause-kept c =
    let end : c.loop-routine.routine-index ≡ length c.args.raw.now.routines = omega (arith, c.loop-routine.auto.routine-index-end, ap length c.as_slice-routine-items.ensures) in
    all_kept c.args.raw.now c.loop-routine.parts c.loop-routine.routine-index c.loop-routine.invariant.before end

pub returns-clause-fault : goal.returns-clause-fault
returns-clause-fault c =
    let end : c.loop-routine.routine-index ≡ length c.args.raw.now.routines = omega (arith, c.loop-routine.auto.routine-index-end, ap length c.as_slice-routine-items.ensures) in
    none_wrong c.args.raw.now c.loop-routine.parts c.loop-routine.routine-index c.loop-routine.invariant.before end
