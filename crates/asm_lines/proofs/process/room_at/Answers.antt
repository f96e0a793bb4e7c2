use Rattle.std.proofs.Common.{refl}
use Rattle.asm_lines.specs.Processes.{room_read}
use Rattle.asm_lines.proofs.process.room_at.Goals as goal

pub returns : goal.returns
unfolding room_read
returns c = rw (c.in_ok-words.ensures.read, c.in_ok-stack.ensures.read, c.in_ok-locals.ensures.read, c.in_ok-start.ensures.read) refl
