use Rattle.std.proofs.Common.{ℕ, List, Option, Some}
use Rattle.command_answers.specs.declared.status.Status.TheVariants as status
use Rattle.command_answers.specs.Acts.{outcome_of}
use Rattle.command_due.specs.Source.{fault_line}
use Rattle.command_answers.specs.Acting.{puts}
use Rattle.command_answers.proofs.Judged.{of_made}
use Rattle.command_due.specs.EdfDue.{IsEdfDue}
use Rattle.edf_command.specs.Judged.{Stops}
use Rattle.edf_command.proofs.Prepared.{stopped_edf}
use Rattle.edf_command.proofs.judging.refuse_source.Goals as goal

pub returns-in-Text-clause-due : goal.returns-in-Text-clause-due
returns-in-Text-clause-due c =
    of_made c.refuse_text.result (puts status.Text (fault_line c.in-Text.number c.in-Text.place))
    (λ act. (text : List ℕ) (script : Option (List ℕ)) → Stops text c.args.fault → IsEdfDue (Some text) script (outcome_of act))
    c.refuse_text.ensures.act (stopped_edf c.args.fault c.in-Text.number c.in-Text.place c.in-Text.is)
