use Rattle.std.proofs.Common.{◌++◌, ◌∙◌, Some, List, ℕ, ap}
use Rattle.command_due.specs.CommandsDue.{told}
use Rattle.command_due.specs.Report.{edf_report}
use Rattle.command_answers.specs.declared.act.PreparedRun.{PreparedRun}
use Rattle.command_answers.specs.Acts.{log_due}
use Rattle.edf_command.proofs.Runs.{can_be_done}
use Rattle.edf_command.proofs.running.run_image.Goals as goal

pub report-requires : goal.report-requires
report-requires c = c.requires.subject.1.valid.written.names.each_process

pub returns-clause-outcome : goal.returns-clause-outcome
returns-clause-outcome c =
    ap (λ (text : List ℕ). told 0 (text ++ log_due (Some c.run_over.result))) c.in_ok-text.ensures
    ∙ ap (λ (run : PreparedRun). told 0 (edf_report c.args.subject.image c.args.subject.answer ++ log_due (Some run))) c.run_over.ensures.run

pub returns-clause-done : goal.returns-clause-done
returns-clause-done c = can_be_done c.in_ok-text.text c.run_over.result c.run_over.ensures.can
