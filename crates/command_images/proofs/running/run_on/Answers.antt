use Rattle.script.specs.Scripts.{longest_text}
use Rattle.command_answers.specs.Acts.{outcome_of}
use Rattle.command_answers.specs.Contents.{IsContent}
use Rattle.command_images.specs.Scripted.{IsImageRunDue}
use Rattle.command_answers.proofs.Held.{of_held}
use Rattle.command_images.proofs.running.run_on.Goals as goal

pub returns-in-Ok-clause-due : goal.returns-in-Ok-clause-due
returns-in-Ok-clause-due g c =
    of_held g.F.Files.tells ((g.F.Files.state c.args.files.now).held c.args.script.now) (IsContent longest_text c.in_ok-content.content) (λ text. IsImageRunDue c.args.image text (outcome_of c.in-Ok.act))
    c.in_ok-content.ensures.content c.in-Ok.ensures.due
