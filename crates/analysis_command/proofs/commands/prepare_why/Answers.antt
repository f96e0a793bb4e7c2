use Rattle.std.proofs.Common.{None}
use Rattle.command_due.specs.WhyDue.{IsWhyDue}
use Rattle.syntax.specs.Tokens.{longest_text}
use Rattle.command_words.specs.Calls as call
use Rattle.command_answers.specs.Acts.{outcome_of}
use Rattle.command_answers.specs.Contents.{IsContent}
use Rattle.command_answers.proofs.Held.{acted, of_held}
use Rattle.command_refusals.proofs.Explaining.{explained}
use Rattle.analysis_command.proofs.commands.prepare_why.Goals as goal

pub returns-in-Ok-clause-prepared : goal.returns-in-Ok-clause-prepared
returns-in-Ok-clause-prepared g c =
    acted g.F.Files.tells (call.why c.args.program.now c.args.over) (g.F.Files.state c.args.files.now) c.in-Ok.act (c.in-Ok.ensures.quiet None)
    (of_held g.F.Files.tells ((g.F.Files.state c.args.files.now).held c.args.program.now) (IsContent longest_text c.in_ok-content.content) (λ text. IsWhyDue c.args.over text (outcome_of c.in-Ok.act))
    c.in_ok-content.ensures.content c.in-Ok.ensures.due)

pub returns-in-Ok-clause-told : goal.returns-in-Ok-clause-told
returns-in-Ok-clause-told g c =
    explained g.F.Files.tells ((g.F.Files.state c.args.files.now).held c.args.program.now) (IsContent longest_text c.in_ok-content.content) _ _ c.in_ok-content.ensures.content
    (λ text is refused. c.in-Ok.ensures.told text is refused)
