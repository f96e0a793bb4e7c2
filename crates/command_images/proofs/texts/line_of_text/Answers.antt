use Rattle.std.proofs.Common.{ℕ, List, Err, sym, subst}
use Rattle.assembler.specs.Faults.{longest_text}
use Rattle.command_answers.specs.Contents.{IsContent}
use Rattle.command_refusals.specs.Told.{IsImageTextTold}
use Rattle.command_due.specs.AsmDue.{IsAsmDue, text_fault_line}
use Rattle.command_due.specs.CommandsDue.{told, valid_fault_line}
use Rattle.command_images.specs.Telling.{LoadsText}
use Rattle.command_answers.proofs.Judged.{of_made}
use Rattle.command_images.proofs.PrepareImagesTold.{faulty_image_text, invalid_image_text, invalid_text_told}
use Rattle.command_images.proofs.texts.line_of_text.Goals as goal

pub returns-in_ok-message-in-Text-clause-due : goal.returns-in_ok-message-in-Text-clause-due
returns-in_ok-message-in-Text-clause-due c =
    of_made c.text_fault_line.result (text_fault_line c.in-Text.number c.in-Text.line) (λ line. (text : List ℕ) → LoadsText text (Err c.args.fault) → IsAsmDue text (told 4 line))
    c.text_fault_line.ensures (faulty_image_text c.args.fault c.in-Text.number c.in-Text.line c.in-Text.is)

pub returns-in_ok-message-in-Invalid-clause-due : goal.returns-in_ok-message-in-Invalid-clause-due
returns-in_ok-message-in-Invalid-clause-due c =
    of_made c.valid_fault_line.result (valid_fault_line (record { number = c.test_number.result; a = c.in-Invalid.found.a; b = c.in-Invalid.found.b }))
    (λ line. (text : List ℕ) → LoadsText text (Err c.args.fault) → IsAsmDue text (told 4 line))
    c.valid_fault_line.ensures
    (subst (λ n. (text : List ℕ) → LoadsText text (Err c.args.fault) → IsAsmDue text (told 4 (valid_fault_line (record { number = n; a = c.in-Invalid.found.a; b = c.in-Invalid.found.b })))) (sym c.test_number.ensures)
    (invalid_image_text c.args.fault c.in-Invalid.raw c.in-Invalid.found c.in-Invalid.is))

pub returns-in_ok-message-in-Invalid-clause-told : goal.returns-in_ok-message-in-Invalid-clause-told
returns-in_ok-message-in-Invalid-clause-told c =
    of_made c.valid_fault_line.result (valid_fault_line (record { number = c.test_number.result; a = c.in-Invalid.found.a; b = c.in-Invalid.found.b }))
    (λ line. (text : List ℕ) → IsContent longest_text c.args.content.now text → LoadsText text (Err c.args.fault) → IsImageTextTold c.args.file.now text (told 4 line) c.in_ok-message-in-Invalid.field-0)
    c.valid_fault_line.ensures
    (λ text held answer. subst (λ n. IsImageTextTold c.args.file.now text (told 4 (valid_fault_line (record { number = n; a = c.in-Invalid.found.a; b = c.in-Invalid.found.b }))) c.in_ok-message-in-Invalid.field-0) (sym c.test_number.ensures)
    (invalid_text_told c.args.fault c.in-Invalid.raw c.in-Invalid.found c.in-Invalid.is c.args.file.now c.in_ok-message-in-Invalid.field-0 text c.in_ok-message-in-Invalid.ensures answer))
