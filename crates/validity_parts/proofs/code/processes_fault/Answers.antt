use Rattle.std.proofs.Common.{◌≡◌, ◌≤◌, ◌<◌, List, Some, None, length, arith, refl, sym, ap, ◌∙◌, map}
use Rattle.std.specs.Prelude.{nat_eq, slice_get}
use Rattle.std.proofs.lemmas.Option.{slice_get_read}
use Rattle.image.specs.Raw.{image_of, process_of}
use Rattle.machine_isa.specs.declared.instr.Instr.{Instr}
use Rattle.loader_code.specs.declared.known.RoutineCost as code
use Rattle.loader_code.specs.TreesTold.{known_of}
use Rattle.valid_image.specs.Tables.{handler_start, part_found}
use Rattle.valid_image_law.specs.Held.{hold}
use Rattle.loader.specs.Found.{two, guard_two, told_process, handler_in}
use Rattle.loader_code.proofs.Seeking.{stops_in, goes_on_in}
use Rattle.loader.specs.declared.parts.ProcessCost.{ProcessCost}
use Rattle.loader.proofs.Bodies.{coded, first_process, next_process, parts_kept, covered}
use Rattle.faulty_part.specs.declared.part.FaultyPart.TheVariants as part
use Rattle.faulty_part.specs.declared.part.Subject.TheVariants as subject
use Rattle.faulty_part.specs.declared.part.PartFault.{PartFault}
use Rattle.faulty_part.specs.Parts.{code_of_process}
use Rattle.validity_parts.proofs.Coding.{ends_in, right_process, starts_in, wrong_process}
use Rattle.validity_parts.proofs.code.processes_fault.Goals as goal

pub loop-process-init : goal.loop-process-init
loop-process-init c = record {
  before = first_process c.args.raw.now c.args.parts.now c.requires.routines c.requires.processes c.requires.due c.requires.within;
  search = starts_in process_of (code_of_process (image_of c.args.raw.now)) c.args.raw.now.processes;
}

pub returns-in-None-clause-fault : goal.returns-in-None-clause-fault
returns-in-None-clause-fault c =
    let raw = c.args.raw.now in
    let parts = c.loop-process.parts in
    let k = c.loop-process.process-index in
    let p = c.process-item.result in
    let items = c.as_slice-process-items.ensures in
    let within : k < length c.as_slice-process-items.result.now = omega arith in
    let of = λ (instrs : List Instr) (ks : List code.RoutineCost). guard_two (nat_eq p.start parts.end) (two (hold (part_found instrs (map known_of ks) p.body p.start)) (hold (handler_in instrs (map known_of ks) p.handler_tree (handler_start (process_of p))))) in
    let none : None ≡ guard_two (nat_eq p.start parts.end) (coded raw parts p) =
    c.in-None.ensures.value ∙ ap (λ code. of code c.as_slice-in-loop-process.result.now) c.as_slice.ensures ∙ ap (λ ks. of raw.code ks) c.as_slice-in-loop-process.ensures in
    let kept : length c.as_slice-in-None.result.now ≡ k = ap (λ (xs : List ProcessCost). length xs) c.as_slice-in-None.ensures ∙ c.loop-process.invariant.before.count in
    ap (λ (f : PartFault). Some f) c.wrong_process.ensures
    ∙ ap (λ n. Some (record { part = part.Process n; subject = subject.Code; a = p.start; b = 0 })) kept
    ∙ stops_in process_of (code_of_process (image_of raw)) raw.processes c.as_slice-process-items.result.now k p _ _ items within c.process-item.is (wrong_process raw parts k p c.loop-process.invariant.before none) c.loop-process.invariant.search

pub loop-process-preserved : goal.loop-process-preserved
loop-process-preserved c =
    let raw = c.args.raw.now in
    let parts = c.loop-process.parts in
    let k = c.loop-process.process-index in
    let p = c.process-item.result in
    let found = c.in-Some.found in
    let items = c.as_slice-process-items.ensures in
    let within : k < length c.as_slice-process-items.result.now = omega arith in
    let is : slice_get raw.processes k ≡ Some p = ap (λ xs. slice_get xs k) (sym items) ∙ slice_get_read c.as_slice-process-items.result.now _ k p refl within c.process-item.is in
    let of = λ (instrs : List Instr) (ks : List code.RoutineCost). guard_two (nat_eq p.start parts.end) (two (hold (part_found instrs (map known_of ks) p.body p.start)) (hold (handler_in instrs (map known_of ks) p.handler_tree (handler_start (process_of p))))) in
    let some : told_process (Some found) ≡ guard_two (nat_eq p.start parts.end) (coded raw parts p) =
    c.in-Some.ensures.value ∙ ap (λ code. of code c.as_slice-in-loop-process.result.now) c.as_slice.ensures ∙ ap (λ ks. of raw.code ks) c.as_slice-in-loop-process.ensures in
    let inside : found.end ≤ length raw.code = omega (arith, c.in-Some.ensures.within, ap length c.as_slice.ensures) in
    record {
      before = next_process raw parts _ k p found c.loop-process.invariant.before is some c.in-Some.ensures.ends inside refl refl c.in_ok-push.ensures.ok refl;
      search = goes_on_in process_of (code_of_process (image_of raw)) raw.processes c.as_slice-process-items.result.now k p _ items within c.process-item.is (right_process raw parts k p _ c.loop-process.invariant.before some) c.loop-process.invariant.search;
    }

pub returns-clause-kept : goal.returns-clause-kept
returns-clause-kept c =
    let end : c.loop-process.process-index ≡ length c.args.raw.now.processes = omega (arith, c.loop-process.auto.process-index-end, ap length c.as_slice-process-items.ensures) in
    parts_kept c.args.raw.now c.loop-process.parts c.loop-process.process-index c.loop-process.invariant.before end

pub returns-clause-fault : goal.returns-clause-fault
returns-clause-fault c =
    let end : c.loop-process.process-index ≡ length c.args.raw.now.processes = omega (arith, c.loop-process.auto.process-index-end, ap length c.as_slice-process-items.ensures) in
    ends_in process_of (code_of_process (image_of c.args.raw.now)) c.args.raw.now.processes c.loop-process.process-index _ end c.loop-process.invariant.search

pub returns-clause-end : goal.returns-clause-end
returns-clause-end c =
    let end : c.loop-process.process-index ≡ length c.args.raw.now.processes = omega (arith, c.loop-process.auto.process-index-end, ap length c.as_slice-process-items.ensures) in
    covered c.args.raw.now c.loop-process.parts c.loop-process.process-index c.loop-process.invariant.before end
