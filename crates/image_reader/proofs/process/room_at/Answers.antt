use Rattle.std.proofs.Common.{refl}
use Rattle.image_reader.proofs.process.room_at.Goals as goal

pub returns : goal.returns
returns c = rw (c.in-Ok.ensures, c.in-Ok-u32_within.ensures, c.in-Ok-u32_within-2.ensures, c.in-Ok-u32_at.ensures) refl
