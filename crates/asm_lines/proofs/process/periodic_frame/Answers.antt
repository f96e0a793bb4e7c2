use Rattle.asm_lines.specs.Processes.{periodic_frame_read}
use Rattle.asm_lines.proofs.process.periodic_frame.Goals as goal

pub returns : goal.returns
unfolding periodic_frame_read
returns c = c.field.ensures.read
