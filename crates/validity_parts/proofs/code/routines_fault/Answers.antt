use Rattle.std.proofs.Common.{◌≡◌, ◌<◌, ◌+◌, List, Some, None, length, arith, refl, sym, ap, ◌∙◌, map}
use Rattle.std.specs.Prelude.{nat_eq, option_map, slice_get}
use Rattle.std.proofs.lemmas.List.{length-map}
use Rattle.std.proofs.lemmas.Option.{slice_get_read}
use Rattle.image.specs.Raw.{image_of, routine_of}
use Rattle.base.specs.Capped.{cap}
use Rattle.loader_code.specs.declared.known.PartCost.{PartCost}
use Rattle.loader_code.specs.TreesTold.{found_of, known_of}
use Rattle.loader_code.specs.Whole.{stay_in}
use Rattle.valid_image.specs.Found.{guard}
use Rattle.valid_image.specs.Tables.{monitor_of, routine_found}
use Rattle.valid_image_law.specs.Held.{hold}
use Rattle.loader_code.proofs.Seeking.{stops_in, goes_on_in}
use Rattle.valid_image.specs.Fault.{first_of}
use Rattle.valid_image_law.specs.Held.{held_known}
use Rattle.loader_code.specs.declared.known.RoutineCost.{RoutineCost}
use Rattle.loader.proofs.Shaping.{test_at}
use Rattle.loader.proofs.Kept.{on, all_kept}
use Rattle.faulty_part.specs.declared.part.FaultyPart.TheVariants as part
use Rattle.faulty_part.specs.declared.part.Subject.TheVariants as subject
use Rattle.faulty_part.specs.declared.part.PartFault.{PartFault}
use Rattle.faulty_part.specs.Parts.{code_of_routine}
use Rattle.validity_parts.proofs.Coding.{ends_in, right_routine, starts_in, wrong_routine}
use Rattle.validity_parts.proofs.code.routines_fault.Goals as goal

pub returns-in-None-clause-fault : goal.returns-in-None-clause-fault
returns-in-None-clause-fault c =
    let raw = c.args.raw.now in
    let parts = c.loop-routine.parts in
    let r = c.loop-routine.routine-index in
    let x = c.routine-item.result in
    let items = c.as_slice-routine-items.ensures in
    let within : r < length c.as_slice-routine-items.result.now = omega arith in
    let none : None ≡ hold (guard (nat_eq x.start parts.end) (routine_found raw.code (map known_of parts.known) (routine_of x))) =
    c.in-None.ensures.value ∙ ap (λ code. hold (guard (nat_eq x.start parts.end) (routine_found code (map known_of c.as_slice-in-loop-routine.result.now) (routine_of x)))) c.as_slice.ensures
    ∙ ap (λ ks. hold (guard (nat_eq x.start parts.end) (routine_found raw.code (map known_of ks) (routine_of x)))) c.as_slice-in-loop-routine.ensures in
    let kept : length c.as_slice-in-None.result.now ≡ r = ap (λ (xs : List PartCost). length xs) c.as_slice-in-None.ensures ∙ c.loop-routine.invariant.before.count in
    ap (λ (f : PartFault). Some f) c.wrong_routine.ensures
    ∙ ap (λ n. Some (record { part = part.Routine n; subject = subject.Code; a = x.start; b = 0 })) kept
    ∙ stops_in routine_of (code_of_routine (image_of raw)) raw.routines c.as_slice-routine-items.result.now r x _ _ items within c.routine-item.is (wrong_routine raw parts r x c.loop-routine.invariant.before none) c.loop-routine.invariant.search

pub loop-routine-preserved : goal.loop-routine-preserved
loop-routine-preserved c =
    let raw = c.args.raw.now in
    let parts = c.loop-routine.parts in
    let r = c.loop-routine.routine-index in
    let x = c.routine-item.result in
    let part = c.in-Some.part in
    let items = c.as_slice-routine-items.ensures in
    let within : r < length c.as_slice-routine-items.result.now = omega arith in
    let is : slice_get raw.routines r ≡ Some x = ap (λ xs. slice_get xs r) (sym items) ∙ slice_get_read c.as_slice-routine-items.result.now _ r x refl within c.routine-item.is in
    let some : Some (found_of part.found) ≡ hold (guard (nat_eq x.start parts.end) (routine_found raw.code (map known_of parts.known) (routine_of x))) =
    c.in-Some.ensures.value ∙ ap (λ code. hold (guard (nat_eq x.start parts.end) (routine_found code (map known_of c.as_slice-in-loop-routine.result.now) (routine_of x)))) c.as_slice.ensures
    ∙ ap (λ ks. hold (guard (nat_eq x.start parts.end) (routine_found raw.code (map known_of ks) (routine_of x)))) c.as_slice-in-loop-routine.ensures in
    let stay : part.stay ≡ cap (stay_in (monitor_of (routine_of x)) (routine_found raw.code (map known_of parts.known) (routine_of x))) =
    c.in-Some.ensures.stay ∙ ap (λ code. cap (stay_in (monitor_of (routine_of x)) (routine_found code (map known_of c.as_slice-in-loop-routine.result.now) (routine_of x)))) c.as_slice.ensures
    ∙ ap (λ ks. cap (stay_in (monitor_of (routine_of x)) (routine_found raw.code (map known_of ks) (routine_of x)))) c.as_slice-in-loop-routine.ensures in
    let inside : part.found.next < length raw.code = omega (arith, c.in-Some.ensures.within, ap length c.as_slice.ensures) in
    record {
      before = on raw parts (record { known = c.push.new.self; routines = c.push-in-loop-routine.new.self; processes = parts.processes; end = part.found.next + 1 }) r x part c.known_routine.result c.loop-routine.invariant.before is some
          c.in-Some.ensures.ends inside stay c.known_routine.ensures c.in_ok-push.ensures.ok c.in_ok-push-2.ensures.ok refl;
      processes = c.loop-routine.invariant.processes;
      search = goes_on_in routine_of (code_of_routine (image_of raw)) raw.routines c.as_slice-routine-items.result.now r x _ items within c.routine-item.is (right_routine raw parts r x (found_of part.found) c.loop-routine.invariant.before some) c.loop-routine.invariant.search;
    }

pub returns-clause-kept : goal.returns-clause-kept
returns-clause-kept c =
    let end : c.loop-routine.routine-index ≡ length c.args.raw.now.routines = omega (arith, c.loop-routine.auto.routine-index-end, ap length c.as_slice-routine-items.ensures) in
    all_kept c.args.raw.now c.loop-routine.parts c.loop-routine.routine-index c.loop-routine.invariant.before end

pub returns-clause-fault : goal.returns-clause-fault
returns-clause-fault c =
    let end : c.loop-routine.routine-index ≡ length c.args.raw.now.routines = omega (arith, c.loop-routine.auto.routine-index-end, ap length c.as_slice-routine-items.ensures) in
    ends_in routine_of (code_of_routine (image_of c.args.raw.now)) c.args.raw.now.routines c.loop-routine.routine-index _ end c.loop-routine.invariant.search

pub loop-routine-init : goal.loop-routine-init
loop-routine-init c =
    let raw = c.args.raw.now in
    let all : length (map routine_of raw.routines) ≡ length raw.routines = length-map raw.routines routine_of in
    record {
      before = record {
        due = c.requires.end;
        within = omega (arith, c.requires.end);
        known_rows = λ j. ap (λ ks. option_map held_known (slice_get (map known_of ks) j)) c.requires.known;
        known_count = ap (λ (ks : List RoutineCost). length ks) c.requires.known;
        count = ap (λ (ks : List PartCost). length ks) c.requires.routines;
        kept = λ j x low. absurd (omega (arith, low));
        rest = ap (λ n. first_of (test_at raw) n 0) (omega (arith, all));
      };
      processes = refl;
      search = starts_in routine_of (code_of_routine (image_of raw)) raw.routines;
    }
