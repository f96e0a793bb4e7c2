use Rattle.std.proofs.lemmas.Result.{IfOk-weaker}
use Rattle.command_answers.specs.Contents.{IsContent}
use Rattle.script.specs.Scripts.{longest_text}
use Rattle.syntax_tree.specs.Placed.{placed}
use Rattle.replay.proofs.Prepared.{log_due, log_failed, script_bad, soon_ended}
use Rattle.replay.proofs.Telling.{log_told, script_told}
use Rattle.replay.proofs.preparing.script_on.Goals as goal

pub log_on-requires-clause-end : goal.log_on-requires-clause-end
log_on-requires-clause-end g c = soon_ended c.args.source.now.names c.in-Ok.lines.lines c.in-Ok.lines.end c.in-Ok.ensures.some

pub returns-in-Ok-clause-due : goal.returns-in-Ok-clause-due
returns-in-Ok-clause-due g c =
    log_due g.F.Files.tells (placed c.args.source.now.program) c.args.source.now.names c.requires.names.same c.args.script.now c.args.log.now
    (g.F.Files.state c.args.files.now) (g.F.Files.state c.read.new.files) (g.F.Files.state c.log_on.new.files) (IsContent longest_text c.in_ok-content.content)
    c.in-Ok.lines.lines c.in-Ok.lines.end c.log_on.result c.in_ok-content.ensures.content c.in-Ok.ensures.script c.in_ok-content.ensures.only_reads.files c.log_on.ensures.due

pub returns-in-Ok-clause-failed : goal.returns-in-Ok-clause-failed
returns-in-Ok-clause-failed g c =
    log_failed g.F.Files.tells (placed c.args.source.now.program) c.args.source.now.names c.requires.names.same c.args.script.now c.args.log.now
    (g.F.Files.state c.args.files.now) (g.F.Files.state c.read.new.files) (g.F.Files.state c.log_on.new.files) (IsContent longest_text c.in_ok-content.content)
    c.in-Ok.lines.lines c.in-Ok.lines.end c.log_on.result c.in_ok-content.ensures.content c.in-Ok.ensures.script c.in_ok-content.ensures.only_reads.read_counts c.log_on.ensures.failed

pub returns-in-Ok-refuse_script-clause-due : goal.returns-in-Ok-refuse_script-clause-due
returns-in-Ok-refuse_script-clause-due g c =
    script_bad g.F.Files.tells (placed c.args.source.now.program) c.args.source.now.names c.requires.names.same c.args.script.now c.args.log.now
    (g.F.Files.state c.args.files.now) (g.F.Files.state c.read.new.files) (g.F.Files.state c.read.new.files) (IsContent longest_text c.in_ok-content.content)
    c.in-Err.fault c.in-Ok-refuse_script.act c.in_ok-content.ensures.content c.in-Err.ensures.fault c.in-Ok-refuse_script.ensures.is_fault c.in-Ok-refuse_script.ensures.act

pub returns-in-Ok-clause-told : goal.returns-in-Ok-clause-told
returns-in-Ok-clause-told g c =
    IfOk-weaker c.log_on.result _ _
    (λ act. log_told (placed c.args.source.now.program) c.args.source.now.names c.requires.names.same c.args.script.now c.args.log.now c.log_on.new.message act g.F.Files.tells
    ((g.F.Files.state c.args.files.now).held c.args.script.now) ((g.F.Files.state c.read.new.files).held c.args.log.now) ((g.F.Files.state c.args.files.now).held c.args.log.now)
    (IsContent longest_text c.in_ok-content.content) c.in-Ok.lines.lines c.in-Ok.lines.end c.in_ok-content.ensures.content c.in-Ok.ensures.script (c.in_ok-content.ensures.only_reads.files c.args.log.now))
    c.log_on.ensures.told

pub returns-in-Ok-refuse_script-clause-told : goal.returns-in-Ok-refuse_script-clause-told
returns-in-Ok-refuse_script-clause-told g c =
    script_told (placed c.args.source.now.program) c.args.source.now.names c.requires.names.same c.args.script.now c.args.log.now c.refuse_script.new.message c.in-Ok-refuse_script.act g.F.Files.tells
    ((g.F.Files.state c.args.files.now).held c.args.script.now) ((g.F.Files.state c.args.files.now).held c.args.log.now) (IsContent longest_text c.in_ok-content.content)
    c.in_ok-content.ensures.content c.in-Ok-refuse_script.ensures.told
