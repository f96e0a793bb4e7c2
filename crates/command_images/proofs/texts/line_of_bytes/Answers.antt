use Rattle.std.proofs.Common.{ℕ, List, Err}
use Rattle.command_due.specs.AsmDue.{IsDisDue}
use Rattle.command_due.specs.CommandsDue.{image_fault_line, told}
use Rattle.image_reader.specs.Answer.{Tells}
use Rattle.command_answers.proofs.Judged.{of_made}
use Rattle.command_images.proofs.PrepareImagesTold.{misread_bytes}
use Rattle.command_images.proofs.texts.line_of_bytes.Goals as goal

pub returns-in_ok-message-in-Bad-clause-due : goal.returns-in_ok-message-in-Bad-clause-due
returns-in_ok-message-in-Bad-clause-due c =
    of_made c.image_fault_line.result (image_fault_line c.in-Bad.number c.in-Bad.offset) (λ line. (bytes : List ℕ) → Tells bytes (Err c.args.fault) → IsDisDue bytes (told 4 line))
    c.image_fault_line.ensures (misread_bytes c.args.fault c.in-Bad.number c.in-Bad.offset c.in-Bad.is)
