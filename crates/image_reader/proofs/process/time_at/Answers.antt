use Rattle.std.proofs.Common.{refl}
use Rattle.image_reader.proofs.process.time_at.Goals as goal

pub returns : goal.returns
returns c = rw (c.in-Ok.ensures, c.in-Ok-cost_at.ensures, c.in-Ok-cost_at-2.ensures, c.in-Ok-cost_at-3.ensures, c.in-Ok-u32_within.ensures) refl
