use Rattle.std.proofs.Common.{None, inl}
use Rattle.std.proofs.lemmas.Result.{IfOk-weaker}
use Rattle.syntax.specs.Tokens.{longest_text}
use Rattle.command_words.specs.Calls as call
use Rattle.command_answers.specs.Acts.{outcome_of}
use Rattle.command_answers.specs.Contents.{IsContent}
use Rattle.command_answers.proofs.Held.{acted}
use Rattle.command_refusals.proofs.Explaining.{explained}
use Rattle.syntax_tree.specs.Placed.{placed}
use Rattle.replay.proofs.Prepared.{replay_prepares, stops}
use Rattle.replay.proofs.Telling.{replay_explained}
use Rattle.replay.proofs.preparing.prepare_replay.Goals as goal

pub returns-in-Ok-clause-prepared : goal.returns-in-Ok-clause-prepared
returns-in-Ok-clause-prepared g c =
    replay_prepares g.F.Files.tells c.args.program.now c.args.script.now c.args.log.now (g.F.Files.state c.args.files.now) (g.F.Files.state c.read.new.files) (g.F.Files.state c.script_on.new.files)
    (IsContent longest_text c.in_ok-content.content) (placed c.in-Ok.source.program) c.script_on.result c.in_ok-content.ensures.content c.in-Ok.ensures.written c.in_ok-content.ensures.only_reads.files
    c.in_ok-content.ensures.only_reads.read_counts c.script_on.ensures.due c.script_on.ensures.quiet c.script_on.ensures.failed

pub returns-in-Ok-refuse_source-clause-prepared : goal.returns-in-Ok-refuse_source-clause-prepared
returns-in-Ok-refuse_source-clause-prepared g c =
    acted g.F.Files.tells (call.replay c.args.program.now c.args.script.now c.args.log.now) (g.F.Files.state c.args.files.now) c.in-Ok-refuse_source.act (c.in-Ok-refuse_source.ensures.quiet None)
    (stops g.F.Files.tells ((g.F.Files.state c.args.files.now).held c.args.program.now) ((g.F.Files.state c.args.files.now).held c.args.script.now) ((g.F.Files.state c.args.files.now).held c.args.log.now)
    (IsContent longest_text c.in_ok-content.content) (outcome_of c.in-Ok-refuse_source.act) c.in_ok-content.ensures.content
    (λ text is. c.in-Ok-refuse_source.ensures.due text ((g.F.Files.state c.args.files.now).held c.args.script.now) ((g.F.Files.state c.args.files.now).held c.args.log.now) (c.in-Err.ensures.fault text is)))

pub returns-in-Ok-clause-told : goal.returns-in-Ok-clause-told
returns-in-Ok-clause-told g c =
    IfOk-weaker c.script_on.result _ _
    (λ act. replay_explained c.args.program.now c.args.script.now c.args.log.now c.script_on.new.message (placed c.in-Ok.source.program) act
    g.F.Files.tells (g.F.Files.state c.args.files.now).held (g.F.Files.state c.read.new.files).held (IsContent longest_text c.in_ok-content.content) c.in_ok-content.ensures.content
    c.in-Ok.ensures.written c.in_ok-content.ensures.only_reads.files)
    c.script_on.ensures.told

pub returns-in-Ok-refuse_source-clause-told : goal.returns-in-Ok-refuse_source-clause-told
returns-in-Ok-refuse_source-clause-told g c =
    explained g.F.Files.tells ((g.F.Files.state c.args.files.now).held c.args.program.now) (IsContent longest_text c.in_ok-content.content) _ _ c.in_ok-content.ensures.content
    (λ text is refused. inl (c.in-Ok-refuse_source.ensures.told text is))
