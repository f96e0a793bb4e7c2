use Rattle.std.proofs.Common.{refl}
use Rattle.asm_lines.specs.Processes.{process_line_read}
use Rattle.asm_lines.proofs.process.process_line.Goals as goal

pub returns : goal.returns
unfolding process_line_read
returns c = rw (c.in_ok-name.ensures, c.in_ok-line.ensures) refl
