use Rattle.std.proofs.Common.{◌≡◌, map}
use Rattle.image.specs.Raw.{image_of, process_of}
use Rattle.valid_image.specs.Fault.{first_in}
use Rattle.loader_code.proofs.Seeking.{from_index}
use Rattle.loader.proofs.Bodies.{BeforeProcess}
use Rattle.faulty_part.specs.Parts.{code_of_process}
use Rattle.validity_parts.proofs.code.processes_fault.Given as goal

abbrev pub invariant-loop-process : goal.invariant-loop-process
invariant-loop-process l = record {
  before : BeforeProcess l.raw l.parts l.process-index;
  search : from_index process_of (code_of_process (image_of l.raw)) l.raw.processes l.process-index ≡ first_in (code_of_process (image_of l.raw)) (map process_of l.raw.processes);
}
