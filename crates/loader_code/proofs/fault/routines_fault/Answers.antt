use Rattle.image.specs.Raw.{image_of, routine_of}
use Rattle.valid_image.specs.Operands.{operand_fault_in, whose_routine}
use Rattle.loader_code.proofs.Seeking.{stops_in, goes_on_in}
use Rattle.loader_code.proofs.fault.routines_fault.Goals as goal

pub returns-in-Some : goal.returns-in-Some
returns-in-Some c = stops_in routine_of (λ r x. operand_fault_in (image_of c.args.image.now) r (whose_routine r x)) c.args.image.now.routines c.as_slice-routines.result.now c.loop-number.number c.index-routines-number.result _ _ c.as_slice-routines.ensures c.loop-number-test.true c.index-routines-number.is c.in-Some.ensures c.loop-number.invariant

pub loop-number-preserved : goal.loop-number-preserved
loop-number-preserved c = goes_on_in routine_of (λ r x. operand_fault_in (image_of c.args.image.now) r (whose_routine r x)) c.args.image.now.routines c.as_slice-routines.result.now c.loop-number.number c.index-routines-number.result _ c.as_slice-routines.ensures c.loop-number-test.true c.index-routines-number.is c.in-None.ensures c.loop-number.invariant
