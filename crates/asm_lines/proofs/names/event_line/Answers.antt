use Rattle.std.proofs.Common.{refl}
use Rattle.asm_lines.specs.Names.{event_read}
use Rattle.asm_lines.proofs.names.event_line.Goals as goal

pub returns : goal.returns
unfolding event_read
returns c = rw (c.in_ok-name.ensures, c.in_ok-at.ensures) refl
