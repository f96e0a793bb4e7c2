use Rattle.std.proofs.Common.{◌≡◌, ◌⊎◌, length, ap, arith, subst}
use Rattle.std.proofs.lemmas.Result.{IfOk-weaker}
use Rattle.out_of_memory.specs.Refused.{refused}
use Rattle.image.specs.declared.names.ImageNames.{ImageNames}
use Rattle.script.specs.Faults.{IsFault}
use Rattle.script.specs.Scripts.{IsScript, longest_text}
use Rattle.script.specs.declared.fault.ScriptFault.TheVariants as script_fault
use Rattle.command_answers.specs.Acts.{outcome_of}
use Rattle.command_answers.specs.Contents.{IsContent}
use Rattle.command_due.specs.CommandsDue.{Outcome}
use Rattle.command_refusals.specs.Told.{IsScriptTold}
use Rattle.edf_command.proofs.Scripted.{bad_due, ran_due}
use Rattle.edf_command.proofs.running.run_act.Goals as goal

pub judge_script-requires-clause-devices : goal.judge_script-requires-clause-devices
judge_script-requires-clause-devices c = omega (arith, ap (λ (n : ImageNames). length n.devices) c.names.ensures, c.requires.subject.1.valid.written.counts.devices)

pub judge_script-requires-clause-events : goal.judge_script-requires-clause-events
judge_script-requires-clause-events c = omega (arith, ap (λ (n : ImageNames). length n.events) c.names.ensures, c.requires.subject.1.valid.written.counts.events)

pub returns-in-Ok-clause-due : goal.returns-in-Ok-clause-due
returns-in-Ok-clause-due c =
    ran_due c.args.subject.image c.args.subject.answer c.in-Ok.script (IsContent longest_text c.args.content.now) c.run_image.result
    (λ text is. subst (λ (n : ImageNames). IsScript n text c.in-Ok.script.lines c.in-Ok.script.end) c.names.ensures (c.in-Ok.ensures.script text is)) c.run_image.ensures.outcome

pub returns-clause-due : goal.returns-clause-due
returns-clause-due c =
    bad_due c.args.subject.image c.args.subject.answer c.in-Err.fault (IsContent longest_text c.args.content.now) c.refuse_script.result
    (λ text is. subst (λ (n : ImageNames). (c.in-Err.fault ≡ script_fault.Memory refused) ⊎ IsFault n text c.in-Err.fault) c.names.ensures (c.in-Err.ensures.fault text is))
    c.refuse_script.ensures.act c.refuse_script.ensures.is_fault

pub returns-in-Ok-clause-told : goal.returns-in-Ok-clause-told
returns-in-Ok-clause-told c =
    IfOk-weaker c.run_image.result _ _ (λ act is text held refused. absurd (refused (ap (λ (o : Outcome). o.status) is))) c.run_image.ensures.outcome

pub returns-clause-told : goal.returns-clause-told
returns-clause-told c =
    IfOk-weaker c.refuse_script.result _ _
    (λ act told text is refused. subst (λ (n : ImageNames). IsScriptTold n c.args.file.now text (outcome_of act) c.refuse_script.new.message) c.names-in-Err.ensures (told text is)) c.refuse_script.ensures.told
