use Rattle.script.proofs.Readings.{untimed_other}
use Rattle.script.proofs.line.timed.Goals as goal

pub returns-then-not-is_same-clause-none : goal.returns-then-not-is_same-clause-none
returns-then-not-is_same-clause-none c = untimed_other c.args.tick c.args.bytes.now c.in-Some.parts.before.now c.in-Some.parts.after.now c.in-Some.ensures.found (c.is_same.ensures.no c.if-is_same.false) (c.is_same-in-Some.ensures.no c.if-not-is_same.true)
