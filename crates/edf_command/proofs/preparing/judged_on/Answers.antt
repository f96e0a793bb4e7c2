use Rattle.std.proofs.Common.{subst, sym}
use Rattle.std.proofs.lemmas.Result.{IfOk-weaker}
use Rattle.command_due.specs.Report.{edf_report}
use Rattle.edf_command.specs.Judged.{IsMet}
use Rattle.edf_command.proofs.Scripted.{met_due}
use Rattle.edf_command.proofs.Telling.{met_told, unfit_told}
use Rattle.edf_command.proofs.preparing.judged_on.Goals as goal

pub returns-in-Feasible-clause-due : goal.returns-in-Feasible-clause-due
returns-in-Feasible-clause-due g c =
    met_due c.args.subject.image c.args.subject.answer g.F.Files.tells ((g.F.Files.state c.args.files.now).held c.args.script.now) c.run_on.result
    (subst IsMet (sym c.in-Feasible.is) tt) c.run_on.ensures.due

pub returns-in-Feasible-clause-told : goal.returns-in-Feasible-clause-told
returns-in-Feasible-clause-told g c =
    IfOk-weaker c.run_on.result _ _
    (λ act. met_told c.args.program.now c.args.script.now c.run_on.new.message c.args.subject act g.F.Files.tells ((g.F.Files.state c.args.files.now).held c.args.script.now)
    (subst IsMet (sym c.in-Feasible.is) tt))
    c.run_on.ensures.told

pub returns-in-Ok-clause-told : goal.returns-in-Ok-clause-told
returns-in-Ok-clause-told g c =
    unfit_told c.args.program.now c.args.script.now c.refuse_unfit.new.message c.args.subject c.in-Ok.act g.F.Files.tells ((g.F.Files.state c.args.files.now).held c.args.script.now)
    (edf_report c.args.subject.image c.args.subject.answer) c.in-Ok.ensures.act c.in-Ok.ensures.told
