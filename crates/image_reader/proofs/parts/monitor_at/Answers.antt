use Rattle.std.proofs.Common.{refl}
use Rattle.image_reader.proofs.parts.monitor_at.Goals as goal

pub returns : goal.returns
returns c = rw (c.in-Ok.ensures, c.in-Ok-u32_at.ensures, c.in-Ok-u16_at.ensures) refl
