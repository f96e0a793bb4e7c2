use Rattle.std.proofs.Common.{append-nil, sym}
use Rattle.std.proofs.lemmas.Bool.{eq-eqb, ne_eqb}
use Rattle.assembler.proofs.work.use_event.Goals as goal

pub returns-in_ok-push : goal.returns-in_ok-push
returns-in_ok-push c = rw (ne_eqb c.args.process.now.kind 0 c.if-process-ne0.true) c.in_ok-push.ensures.ok

pub returns-else-process-ne0 : goal.returns-else-process-ne0
returns-else-process-ne0 c = rw (eq-eqb c.args.process.now.kind 0 c.if-process-ne0.false) (sym (append-nil c.args.used.now))
