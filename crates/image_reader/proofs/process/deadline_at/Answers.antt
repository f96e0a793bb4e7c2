use Rattle.std.proofs.Common.{refl}
use Rattle.image_reader.proofs.process.deadline_at.Goals as goal

pub returns-then-has_deadlines : goal.returns-then-has_deadlines
returns-then-has_deadlines c = rw c.if-has_deadlines.true c.u32_within.ensures

pub returns-else-has_deadlines : goal.returns-else-has_deadlines
returns-else-has_deadlines c = rw c.if-has_deadlines.false refl
