use Rattle.std.proofs.Common.{ℕ, List, Option, Some, Err}
use Rattle.command_answers.specs.declared.status.Status.TheVariants as status
use Rattle.command_answers.specs.Acts.{outcome_of}
use Rattle.command_due.specs.Source.{fault_line}
use Rattle.compile.specs.Written.{ReadsWritten}
use Rattle.command_answers.specs.Acting.{puts}
use Rattle.command_answers.proofs.Judged.{of_made}
use Rattle.command_due.specs.ReplayDue.{IsReplayDue}
use Rattle.replay.proofs.Prepared.{faulty_replay}
use Rattle.replay.proofs.sources.refuse_source.Goals as goal

pub returns-in-Text-clause-due : goal.returns-in-Text-clause-due
returns-in-Text-clause-due c =
    of_made c.refuse_text.result (puts status.Text (fault_line c.in-Text.number c.in-Text.place))
    (λ act. (text : List ℕ) (script log : Option (List ℕ)) → ReadsWritten text (Err c.args.fault) → IsReplayDue (Some text) script log (outcome_of act))
    c.refuse_text.ensures.act (faulty_replay c.args.fault c.in-Text.number c.in-Text.place c.in-Text.is)
