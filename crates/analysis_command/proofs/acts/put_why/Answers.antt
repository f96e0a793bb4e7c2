use Rattle.std.proofs.Common.{sym, subst, ap}
use Rattle.command_due.specs.WhyDue.{IsWhyDue}
use Rattle.command_answers.specs.declared.act.PreparedCall.{PreparedCall}
use Rattle.command_answers.specs.Acts.{number_of, outcome_of}
use Rattle.analysis_command.proofs.Bounds.{due_in_time, due_late, told_late}
use Rattle.analysis_command.proofs.acts.put_why.Goals as goal

pub returns-in-None-clause-due : goal.returns-in-None-clause-due
returns-in-None-clause-due c =
    λ text are. subst (λ (act : PreparedCall). IsWhyDue c.args.over text (outcome_of act)) (sym c.put.ensures) (due_in_time c.args.over text c.args.bounds are c.in-None.is)

pub returns-in-None-clause-told : goal.returns-in-None-clause-told
returns-in-None-clause-told c = λ text are refused. absurd (refused (ap (λ (act : PreparedCall). number_of act.status) c.put.ensures))

pub returns-in_ok-message-in-Some-clause-due : goal.returns-in_ok-message-in-Some-clause-due
returns-in_ok-message-in-Some-clause-due c =
    λ text are. subst (λ (act : PreparedCall). IsWhyDue c.args.over text (outcome_of act)) (sym c.put-in-Some.ensures)
    (due_late c.args.over text c.args.bounds are c.in-Some.shown c.in-Some.is)

pub returns-in_ok-message-in-Some-clause-told : goal.returns-in_ok-message-in-Some-clause-told
returns-in_ok-message-in-Some-clause-told c =
    λ text are refused. record {
      late = ap (λ (act : PreparedCall). number_of act.status) c.put-in-Some.ensures;
      is = told_late c.args.over text c.args.bounds are c.in-Some.shown c.in-Some.is c.args.file.now _ c.in_ok-message-in-Some.ensures;
    }
