use Rattle.command_answers.specs.Acts.{outcome_of}
use Rattle.command_answers.specs.Contents.{IsContent}
use Rattle.command_answers.proofs.Held.{of_held}
use Rattle.event_log.specs.Logs.{longest_text}
use Rattle.command_due.specs.ReplayDue.{IsJudged}
use Rattle.command_refusals.specs.Refusals.{Explains}
use Rattle.command_refusals.specs.Told.{IsLogTold}
use Rattle.syntax_tree.specs.Placed.{placed}
use Rattle.replay.proofs.preparing.log_on.Goals as goal

pub returns-in-Ok-clause-due : goal.returns-in-Ok-clause-due
returns-in-Ok-clause-due g c =
    of_held g.F.Files.tells ((g.F.Files.state c.args.files.now).held c.args.log.now) (IsContent longest_text c.in_ok-content.content)
    (λ text. IsJudged (placed c.args.source.now.program) c.args.script.now.lines c.args.script.now.end text (outcome_of c.in-Ok.act))
    c.in_ok-content.ensures.content c.in-Ok.ensures.due

pub returns-in-Ok-clause-told : goal.returns-in-Ok-clause-told
returns-in-Ok-clause-told g c =
    of_held g.F.Files.tells ((g.F.Files.state c.args.files.now).held c.args.log.now) (IsContent longest_text c.in_ok-content.content)
    (λ text. Explains (IsLogTold (placed c.args.source.now.program) c.args.script.now.lines c.args.script.now.end c.args.log.now text (outcome_of c.in-Ok.act) c.log_act.new.message) c.in-Ok.act)
    c.in_ok-content.ensures.content c.in-Ok.ensures.told
