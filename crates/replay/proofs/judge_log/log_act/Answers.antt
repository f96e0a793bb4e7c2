use Rattle.std.proofs.lemmas.Result.{IfOk-weaker}
use Rattle.command_answers.specs.Acts.{outcome_of}
use Rattle.command_answers.specs.Contents.{IsContent}
use Rattle.event_log.specs.Logs.{longest_text}
use Rattle.syntax_tree.specs.Placed.{placed}
use Rattle.replay.proofs.Judged.{judged_fault, judged_run}
use Rattle.replay.proofs.Telling.{finding_told, misread_told}
use Rattle.replay.proofs.judge_log.log_act.Goals as goal

pub returns-in-Ok-clause-due : goal.returns-in-Ok-clause-due
returns-in-Ok-clause-due c =
    judged_run (placed c.args.source.now.program) c.args.source.now.names c.requires.source.names.same c.args.script.now.lines c.args.script.now.end (IsContent longest_text c.args.content.now)
    c.in-Ok.judged c.put_verdict.result c.in-Ok.ensures.found c.put_verdict.ensures.act

pub returns-in-Ok-clause-told : goal.returns-in-Ok-clause-told
returns-in-Ok-clause-told c =
    let it = c.in-Ok.judged in
    IfOk-weaker c.put_verdict.result _ _
    (λ act told log is refused.
    let found = c.in-Ok.ensures.found log is in
    let events = found.events in
    let is_log = found.log in
    finding_told (placed c.args.source.now.program) c.args.source.now.names c.requires.source.names.same c.args.script.now.lines c.args.script.now.end c.args.file.now log (outcome_of act)
    c.put_verdict.new.message events it.finding is_log found.finds (told log is is_log.short refused))
    c.put_verdict.ensures.told

pub returns-in-Err-clause-due : goal.returns-in-Err-clause-due
returns-in-Err-clause-due c =
    judged_fault (placed c.args.source.now.program) c.args.source.now.names c.requires.source.names.same c.args.script.now.lines c.args.script.now.end (IsContent longest_text c.args.content.now)
    c.in-Err.fault c.refuse_log.result c.in-Err.ensures.fault c.refuse_log.ensures.act c.refuse_log.ensures.is_fault

pub returns-in-Err-clause-told : goal.returns-in-Err-clause-told
returns-in-Err-clause-told c =
    IfOk-weaker c.refuse_log.result _ _
    (λ act told log is refused.
    misread_told (placed c.args.source.now.program) c.args.source.now.names c.requires.source.names.same c.args.script.now.lines c.args.script.now.end c.args.file.now log (outcome_of act)
    c.refuse_log.new.message (told log is))
    c.refuse_log.ensures.told
