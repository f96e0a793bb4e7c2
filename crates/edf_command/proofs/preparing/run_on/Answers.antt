use Rattle.script.specs.Scripts.{longest_text}
use Rattle.command_answers.specs.Acts.{outcome_of}
use Rattle.command_answers.specs.Contents.{IsContent}
use Rattle.command_answers.proofs.Held.{of_held}
use Rattle.command_refusals.specs.Refusals.{Explains}
use Rattle.command_refusals.specs.Told.{IsScriptTold}
use Rattle.edf_command.specs.Judged.{IsScriptDue}
use Rattle.edf_command.proofs.preparing.run_on.Goals as goal

pub returns-in-Ok-clause-due : goal.returns-in-Ok-clause-due
returns-in-Ok-clause-due g c =
    of_held g.F.Files.tells ((g.F.Files.state c.args.files.now).held c.args.script.now) (IsContent longest_text c.in_ok-content.content)
    (λ text. IsScriptDue c.args.subject.image c.args.subject.answer text (outcome_of c.in-Ok.act)) c.in_ok-content.ensures.content c.in-Ok.ensures.due

pub returns-in-Ok-clause-told : goal.returns-in-Ok-clause-told
returns-in-Ok-clause-told g c =
    of_held g.F.Files.tells ((g.F.Files.state c.args.files.now).held c.args.script.now) (IsContent longest_text c.in_ok-content.content)
    (λ text. Explains (IsScriptTold c.args.subject.image.names c.args.script.now text (outcome_of c.in-Ok.act) c.run_act.new.message) c.in-Ok.act) c.in_ok-content.ensures.content c.in-Ok.ensures.told
