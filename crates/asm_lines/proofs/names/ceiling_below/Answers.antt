use Rattle.std.proofs.Common.{refl}
use Rattle.std.proofs.lemmas.Bool.{le-ltb, lt-ltb}
use Rattle.asm_lines.proofs.names.ceiling_below.Goals as goal

pub returns-then-ceiling-lt65535 : goal.returns-then-ceiling-lt65535
returns-then-ceiling-lt65535 c = rw (c.in-Some.is, lt-ltb c.in-Some.ceiling 65535 c.if-ceiling-lt65535.true) refl

pub returns-else-ceiling-lt65535 : goal.returns-else-ceiling-lt65535
returns-else-ceiling-lt65535 c = rw (c.in-Some.is, le-ltb c.in-Some.ceiling 65535 c.if-ceiling-lt65535.false) refl
