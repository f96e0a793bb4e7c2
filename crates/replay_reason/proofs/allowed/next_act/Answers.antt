use Rattle.std.proofs.Common.{◌∙◌, Option, refl, subst}
use Rattle.std.specs.Prelude.{option_map}
use Rattle.replay_state.specs.View.{action_of, config_of, next_of}
use Rattle.replay_state.specs.declared.call.NextAction.{NextAction}
use Rattle.replay_script.specs.Cursors.{script_in}
use Rattle.replay_accept.proofs.Steps.{told_saved}
use Rattle.replay_accept.specs.Judged.{IsNextOf}
use Rattle.replay_accept.specs.Running.{program_of}
use Rattle.replay_reason_spec.specs.Events.{act_of}
use Rattle.replay_reason.proofs.Telling.{next_told}
use Rattle.replay_reason.proofs.allowed.next_act.Goals as goal

pub returns-in-Some : goal.returns-in-Some
returns-in-Some c =
    let g = program_of c.args.rules.now in
    let s = script_in c.args.script.now in
    let k = config_of c.args.config.now in
    let n = next_of c.in-Some.next in
    next_told g s k c.args.tick (record { tick = c.args.tick; proc = c.args.process; act = act_of c.told_act-act.result }) n refl c.requires.next
    (subst (λ (o : Option NextAction). IsNextOf g k c.args.process (option_map next_of o)) c.in-Some.is c.in_ok-next_of_process.ensures)
    (c.told_act-act.ensures g c.args.process ∙ told_saved g s k c.args.tick c.args.process n (action_of c.in-Some.next.action))
