use Rattle.image.specs.Raw.{process_of}
use Rattle.compile_schedule.proofs.Listing.{all_made}
use Rattle.edf_command.specs.Steps.{due_of}
use Rattle.edf_command.proofs.shaping.deadlines.Goals as goal

pub returns : goal.returns
returns c = all_made process_of due_of c.args.processes.now c.loop-process.all c.loop-process.process-index c.loop-process-test.false c.loop-process.invariant
