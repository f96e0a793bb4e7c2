use Rattle.std.proofs.Common.{refl}
use Rattle.asm_lines.specs.Routines.{place_read}
use Rattle.asm_lines.proofs.routine.room_at.Goals as goal

pub returns : goal.returns
unfolding place_read
returns c = rw (c.in_ok-params.ensures, c.in_ok-locals.ensures.read, c.in_ok-gives.ensures.read, c.in_ok-start.ensures.read) refl
