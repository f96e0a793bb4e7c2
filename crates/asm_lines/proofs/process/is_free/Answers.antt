use Rattle.std.proofs.Common.{ap, not, refl}
use Rattle.std.proofs.lemmas.Bool.{le-ltb, lt-ltb}
use Rattle.asm_lines.proofs.process.is_free.Goals as goal

pub returns-then-from-events : goal.returns-then-from-events
returns-then-from-events c = rw (lt-ltb c.args.event c.args.events (rw c.from.ensures at c.if-from-events.true)) (ap not c.contains.ensures.value)

pub returns-else-from-events : goal.returns-else-from-events
returns-else-from-events c =
    rw (le-ltb c.from.result c.args.events c.if-from-events.false, le-ltb c.args.event c.args.events (rw c.from.ensures at c.if-from-events.false)) refl
