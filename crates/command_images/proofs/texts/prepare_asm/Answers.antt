use Rattle.command_due.specs.AsmDue.{IsAsmDue}
use Rattle.assembler.specs.Faults.{longest_text}
use Rattle.command_words.specs.Calls as call
use Rattle.command_answers.specs.Acts.{outcome_of}
use Rattle.command_answers.specs.Contents.{IsContent}
use Rattle.command_answers.proofs.Held.{acted, of_held}
use Rattle.command_images.proofs.texts.prepare_asm.Goals as goal

pub returns-in-Ok-clause-prepared : goal.returns-in-Ok-clause-prepared
returns-in-Ok-clause-prepared g c =
    acted g.F.Files.tells (call.asm c.args.text.now c.args.image.now) (g.F.Files.state c.args.files.now) c.in-Ok.act c.in-Ok.ensures.done
    (of_held g.F.Files.tells ((g.F.Files.state c.args.files.now).held c.args.text.now) (IsContent longest_text c.in_ok-content.content) (λ lines. IsAsmDue lines (outcome_of c.in-Ok.act))
    c.in_ok-content.ensures.content c.in-Ok.ensures.due)
