-- What acts come to.
use Rattle.std.proofs.Common.{◌≡◌, ℕ, List, ap, ◌∙◌}
use Rattle.std.proofs.lemmas.List.{append-nil}
use Rattle.command_due.specs.CommandsDue.{told}
use Rattle.command_answers.specs.declared.status.Status.{Status}
use Rattle.command_answers.specs.declared.act.PreparedCall.{PreparedCall}
use Rattle.command_answers.specs.Acts.{number_of, outcome_of}
use Rattle.command_answers.specs.Acting.{puts}

pub outcome_of_puts : (status : Status) (text : List ℕ) → outcome_of (puts status text) ≡ told (number_of status) text
outcome_of_puts status text = ap (told (number_of status)) (append-nil text)

pub put_comes_to : (status : Status) (text : List ℕ) (act : PreparedCall) → act ≡ puts status text → outcome_of act ≡ told (number_of status) text
put_comes_to status text act is = ap outcome_of is ∙ outcome_of_puts status text
