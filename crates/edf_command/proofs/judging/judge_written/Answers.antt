use Rattle.std.proofs.Common.{refl, subst}
use Rattle.syntax_tree.specs.declared.decl.Program.{Program}
use Rattle.syntax_tree.specs.Placed.{placed}
use Rattle.command_due.specs.Waits.{IsFirstWait}
use Rattle.edf_command.specs.Judged.{waits}
use Rattle.edf_command.proofs.judging.judge_written.Goals as goal

pub returns-in-Some-clause-fault : goal.returns-in-Some-clause-fault
returns-in-Some-clause-fault g c =
    waits (placed c.args.program.now) c.requires (subst (λ (p : Program). IsFirstWait (placed p) c.in-Some.place) c.prog.ensures.tree c.in-Some.ensures) refl
