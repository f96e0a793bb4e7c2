use Rattle.std.proofs.Common.{Some}
use Rattle.std.proofs.lemmas.Result.{IfOk-weaker}
use Rattle.syntax.specs.Tokens.{longest_text}
use Rattle.command_words.specs.Calls as call
use Rattle.command_answers.specs.Acts.{outcome_of}
use Rattle.command_answers.specs.Contents.{IsContent}
use Rattle.command_answers.proofs.Held.{acted}
use Rattle.command_programs.proofs.Read.{go_prepares, go_stops}
use Rattle.command_programs.proofs.Explained.{go_explained, go_refused_explained}
use Rattle.command_programs.proofs.going.prepare_go.Goals as goal

pub returns-in-Ok-clause-prepared : goal.returns-in-Ok-clause-prepared
returns-in-Ok-clause-prepared g c =
    go_prepares g.F.Files.tells c.args.program.now c.args.image.now c.args.script.now c.args.over (g.F.Files.state c.args.files.now) (g.F.Files.state c.read.new.files) (g.F.Files.state c.go_on.new.files)
    (IsContent longest_text c.in_ok-content.content) c.in-Ok.built c.go_on.result c.in_ok-content.ensures.content c.in-Ok.ensures.compiles c.in_ok-content.ensures.only_reads.files c.in_ok-content.ensures.only_reads.read_counts
    c.go_on.ensures.due c.go_on.ensures.done c.go_on.ensures.failed

pub returns-in-Ok-refuse-clause-prepared : goal.returns-in-Ok-refuse-clause-prepared
returns-in-Ok-refuse-clause-prepared g c =
    acted g.F.Files.tells (call.go c.args.program.now c.args.image.now c.args.script.now c.args.over) (g.F.Files.state c.args.files.now) c.in-Ok-refuse.act (c.in-Ok-refuse.ensures.quiet (Some c.args.image.now))
    (go_stops g.F.Files.tells c.args.over ((g.F.Files.state c.args.files.now).held c.args.program.now) ((g.F.Files.state c.args.files.now).held c.args.script.now) (IsContent longest_text c.in_ok-content.content)
    (outcome_of c.in-Ok-refuse.act) c.in_ok-content.ensures.content (λ text is. c.in-Ok-refuse.ensures.due c.args.over text (c.in-Err.ensures.compiles text is)))

pub returns-in-Ok-clause-told : goal.returns-in-Ok-clause-told
returns-in-Ok-clause-told g c =
    IfOk-weaker c.go_on.result _ _
    (λ act told. go_explained g.F.Files.tells c.args.program.now c.args.image.now c.args.script.now c.args.over (g.F.Files.state c.args.files.now).held (g.F.Files.state c.read.new.files).held
    (IsContent longest_text c.in_ok-content.content) c.in-Ok.built _ act c.in_ok-content.ensures.content c.in-Ok.ensures.compiles c.in_ok-content.ensures.only_reads.files told)
    c.go_on.ensures.told

pub returns-in-Ok-refuse-clause-told : goal.returns-in-Ok-refuse-clause-told
returns-in-Ok-refuse-clause-told g c =
    go_refused_explained g.F.Files.tells c.args.program.now c.args.image.now c.args.script.now c.args.over (g.F.Files.state c.args.files.now).held (IsContent longest_text c.in_ok-content.content) _ c.in-Ok-refuse.act
    c.in_ok-content.ensures.content (λ text is. c.in-Ok-refuse.ensures.told text is (c.in-Err.ensures.compiles text is))
