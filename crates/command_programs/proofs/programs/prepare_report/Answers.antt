use Rattle.syntax.specs.Tokens.{longest_text}
use Rattle.command_answers.specs.Contents.{IsContent}
use Rattle.command_programs.proofs.Read.{reported}
use Rattle.command_programs.proofs.Explained.{report_explained}
use Rattle.command_programs.proofs.programs.prepare_report.Goals as goal

pub returns-in-Ok-clause-prepared : goal.returns-in-Ok-clause-prepared
returns-in-Ok-clause-prepared g c =
    reported g.F.Files.tells c.args.format c.args.program.now c.args.over (g.F.Files.state c.args.files.now) c.in-Ok.act (IsContent longest_text c.in_ok-content.content) c.in-Ok.ensures.quiet
    c.in_ok-content.ensures.content c.in-Ok.ensures.due

pub returns-in-Ok-clause-told : goal.returns-in-Ok-clause-told
returns-in-Ok-clause-told g c =
    report_explained g.F.Files.tells c.args.format c.args.program.now c.args.over (g.F.Files.state c.args.files.now).held _ c.in-Ok.act (IsContent longest_text c.in_ok-content.content)
    c.in_ok-content.ensures.content c.in-Ok.ensures.told
