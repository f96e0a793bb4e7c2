use Rattle.std.proofs.Common.{refl}
use Rattle.std.proofs.lemmas.Bool.{eq-eqb, ne_eqb}
use Rattle.asm_lines.specs.Routines.{stay_read}
use Rattle.asm_lines.proofs.routine.stay.Goals as goal

pub returns-then-kind-eq2 : goal.returns-then-kind-eq2
unfolding stay_read
returns-then-kind-eq2 c = rw (eq-eqb c.args.kind 2 c.if-kind-eq2.true) c.cost.ensures

pub returns-else-kind-eq2 : goal.returns-else-kind-eq2
unfolding stay_read
returns-else-kind-eq2 c = rw (ne_eqb c.args.kind 2 c.if-kind-eq2.false) refl
