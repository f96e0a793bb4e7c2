use Rattle.std.proofs.Common.{refl}
use Rattle.image_reader.proofs.parts.device_at.Goals as goal

pub returns-clause-read : goal.returns-clause-read
returns-clause-read c = rw (c.in-Ok.ensures.read, c.in-Ok-flag_at.ensures) refl
