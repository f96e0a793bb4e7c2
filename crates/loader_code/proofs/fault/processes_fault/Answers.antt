use Rattle.std.proofs.Common.{map, length, ap, arith, length-append}
use Rattle.std.proofs.lemmas.List.{length-map}
use Rattle.image.specs.Raw.{image_of, process_of, routine_of}
use Rattle.valid_image.specs.Operands.{operand_fault_in, whose_process}
use Rattle.valid_image.specs.Pieces.{piece_number, piece_of_process, piece_of_routine}
use Rattle.loader_code.proofs.Faults.{process_found}
use Rattle.loader_code.proofs.Seeking.{stops_in, goes_on_in}
use Rattle.loader_code.proofs.fault.processes_fault.Goals as goal

pub returns-in-Some : goal.returns-in-Some
returns-in-Some c = stops_in process_of (λ k p. operand_fault_in (image_of c.args.image.now) (piece_number (image_of c.args.image.now) k) (whose_process (image_of c.args.image.now) k p)) c.args.image.now.processes c.as_slice-processes.result.now c.loop-number.number c.index-processes-number.result _ _ c.as_slice-processes.ensures c.loop-number-test.true c.index-processes-number.is (process_found c.args.image.now c.len-routines.result c.loop-number.number (process_of c.index-processes-number.result) _ c.len-routines.ensures c.in-Some.ensures) c.loop-number.invariant

pub loop-number-preserved : goal.loop-number-preserved
loop-number-preserved c = goes_on_in process_of (λ k p. operand_fault_in (image_of c.args.image.now) (piece_number (image_of c.args.image.now) k) (whose_process (image_of c.args.image.now) k p)) c.args.image.now.processes c.as_slice-processes.result.now c.loop-number.number c.index-processes-number.result _ c.as_slice-processes.ensures c.loop-number-test.true c.index-processes-number.is (process_found c.args.image.now c.len-routines.result c.loop-number.number (process_of c.index-processes-number.result) _ c.len-routines.ensures c.in-None.ensures) c.loop-number.invariant

pub fault_in_piece-requires-clause-piece : goal.fault_in_piece-requires-clause-piece
fault_in_piece-requires-clause-piece c =
    let raw = c.args.image.now in
    let m = image_of raw in
    omega (
      arith,
      c.len-routines.ensures,
      ap length c.as_slice-processes.ensures,
      c.requires.addresses.one_each,
      c.loop-number-test.true,
      length-append (map piece_of_routine m.routines) (map piece_of_process m.processes),
      length-map m.routines piece_of_routine,
      length-map m.processes piece_of_process,
      length-map raw.routines routine_of,
      length-map raw.processes process_of,
    )
