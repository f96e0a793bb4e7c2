use Rattle.image.specs.Raw.{routine_of}
use Rattle.loader_code.proofs.Seeking.{stops_in, goes_on_in}
use Rattle.faulty_part.specs.Parts.{locals_of_routine}
use Rattle.validity_parts.proofs.sizes.routines_fault.Goals as goal

pub returns-in-Some : goal.returns-in-Some
returns-in-Some c = stops_in routine_of locals_of_routine c.args.raw.now.routines c.as_slice-routines.result.now c.loop-r.r c.index-routines-r.result _ _ c.as_slice-routines.ensures c.loop-r-test.true c.index-routines-r.is c.in-Some.ensures c.loop-r.invariant

pub loop-r-preserved : goal.loop-r-preserved
loop-r-preserved c = goes_on_in routine_of locals_of_routine c.args.raw.now.routines c.as_slice-routines.result.now c.loop-r.r c.index-routines-r.result _ c.as_slice-routines.ensures c.loop-r-test.true c.index-routines-r.is c.in-None.ensures c.loop-r.invariant
