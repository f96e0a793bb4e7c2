use Rattle.command_due.specs.AsmDue.{IsDisDue}
use Rattle.image_reader.specs.File.{longest}
use Rattle.command_words.specs.Calls as call
use Rattle.command_answers.specs.Acts.{outcome_of}
use Rattle.command_answers.specs.Contents.{IsContent}
use Rattle.command_answers.proofs.Held.{acted, of_held}
use Rattle.command_images.proofs.texts.prepare_dis.Goals as goal

pub returns-in-Ok-clause-prepared : goal.returns-in-Ok-clause-prepared
returns-in-Ok-clause-prepared g c =
    acted g.F.Files.tells (call.dis c.args.image.now c.args.text.now) (g.F.Files.state c.args.files.now) c.in-Ok.act c.in-Ok.ensures.done
    (of_held g.F.Files.tells ((g.F.Files.state c.args.files.now).held c.args.image.now) (IsContent longest c.in_ok-content.content) (λ bytes. IsDisDue bytes (outcome_of c.in-Ok.act))
    c.in_ok-content.ensures.content c.in-Ok.ensures.due)
