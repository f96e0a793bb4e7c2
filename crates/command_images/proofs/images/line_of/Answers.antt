use Rattle.std.proofs.Common.{ℕ, List, Err, sym, subst}
use Rattle.command_due.specs.CommandsDue.{IsImageRefused, image_fault_line, told, valid_fault_line}
use Rattle.image_loaded.specs.Answers.{Loads}
use Rattle.command_refusals.specs.Told.{IsImageTold}
use Rattle.command_images.proofs.Refused.{invalid_image, invalid_told, misread_image}
use Rattle.command_answers.proofs.Judged.{of_made}
use Rattle.command_images.proofs.images.line_of.Goals as goal

pub returns-in_ok-message-in-Image-clause-due : goal.returns-in_ok-message-in-Image-clause-due
returns-in_ok-message-in-Image-clause-due c =
    of_made c.image_fault_line.result (image_fault_line c.in-Image.number c.in-Image.offset) (λ line. (bytes : List ℕ) → Loads bytes (Err c.args.fault) → IsImageRefused bytes (told 4 line))
    c.image_fault_line.ensures (misread_image c.args.fault c.in-Image.number c.in-Image.offset c.in-Image.is)

pub returns-in_ok-message-in-Invalid-clause-due : goal.returns-in_ok-message-in-Invalid-clause-due
returns-in_ok-message-in-Invalid-clause-due c =
    of_made c.valid_fault_line.result (valid_fault_line (record { number = c.test_number.result; a = c.in-Invalid.found.a; b = c.in-Invalid.found.b }))
    (λ line. (bytes : List ℕ) → Loads bytes (Err c.args.fault) → IsImageRefused bytes (told 4 line))
    c.valid_fault_line.ensures
    (subst (λ n. (bytes : List ℕ) → Loads bytes (Err c.args.fault) → IsImageRefused bytes (told 4 (valid_fault_line (record { number = n; a = c.in-Invalid.found.a; b = c.in-Invalid.found.b })))) (sym c.test_number.ensures)
    (invalid_image c.args.fault c.in-Invalid.raw c.in-Invalid.found c.in-Invalid.is))

pub returns-in_ok-message-in-Invalid-clause-told : goal.returns-in_ok-message-in-Invalid-clause-told
returns-in_ok-message-in-Invalid-clause-told c =
    of_made c.valid_fault_line.result (valid_fault_line (record { number = c.test_number.result; a = c.in-Invalid.found.a; b = c.in-Invalid.found.b }))
    (λ line. (bytes : List ℕ) → Loads bytes (Err c.args.fault) → IsImageTold c.args.file.now bytes (told 4 line) c.in_ok-message-in-Invalid.field-0)
    c.valid_fault_line.ensures
    (λ bytes answer. subst (λ n. IsImageTold c.args.file.now bytes (told 4 (valid_fault_line (record { number = n; a = c.in-Invalid.found.a; b = c.in-Invalid.found.b }))) c.in_ok-message-in-Invalid.field-0) (sym c.test_number.ensures)
    (invalid_told c.args.fault c.in-Invalid.raw c.in-Invalid.found c.in-Invalid.is c.args.file.now c.in_ok-message-in-Invalid.field-0 bytes c.in_ok-message-in-Invalid.ensures answer))
