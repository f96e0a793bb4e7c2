use Rattle.std.proofs.Common.{refl}
use Rattle.asm_lines.specs.Names.{head_read}
use Rattle.asm_lines.proofs.names.head_line.Goals as goal

pub returns : goal.returns
unfolding head_read
returns c = rw (c.in_ok-name.ensures, c.in_ok-overhead.ensures, c.in_ok-at.ensures) refl
