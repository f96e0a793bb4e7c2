use Rattle.std.proofs.Common.{◌≡◌, ◌∙◌, ◌++◌, ◌∷◌, [], ap}
use Rattle.std.proofs.lemmas.List.{map-append}
use Rattle.std.proofs.lemmas.Result.{IfOk-weaker}
use Rattle.base.specs.declared.event.Event.{Event}
use Rattle.replay_state.specs.View.{config_of}
use Rattle.replay_script.specs.Cursors.{script_in}
use Rattle.replay_accept.specs.Judged.{Comes}
use Rattle.replay_accept.specs.Running.{program_of}
use Rattle.replay_reason_spec.specs.Events.{event_of, events_of}
use Rattle.replay_reason.specs.Following.{Follows}
use Rattle.replay_reason.specs.Starting.{Takes, start_event}
use Rattle.replay_reason.proofs.Following.{follows_on}
use Rattle.replay_reason.proofs.Starting.{takes_none, takes_one}
use Rattle.replay_reason.proofs.missing.take_next.Goals as goal

pub returns-in-None-clause-takes : goal.returns-in-None-clause-takes
returns-in-None-clause-takes c =
    takes_none (program_of c.args.rules.now) (script_in c.args.script.now) c.args.until (config_of c.args.config.now) (events_of c.args.found.now.items) c.in-None.ensures.none

pub returns-in_ok-push-in-Some-clause-takes : goal.returns-in_ok-push-in-Some-clause-takes
returns-in_ok-push-in-Some-clause-takes c =
    let g = program_of c.args.rules.now in
    let s = script_in c.args.script.now in
    let old = config_of c.args.config.now in
    let new = config_of c.come.new.config in
    let before = events_of c.args.found.now.items in
    let after = events_of c.push.new.self.items in
    let list : after ≡ before ++ start_event c.in-Some.due ∷ [] =
    ap events_of c.in_ok-push-in-Some.ensures.items
    ∙ (map-append event_of c.args.found.now.items (c.source_event.result ∷ []) ∙ ap (λ (e : Event). before ++ e ∷ []) c.source_event.ensures) in
    IfOk-weaker c.come.result (λ goes. Comes g old (start_event c.in-Some.due) goes new) (λ goes. Takes g s c.args.until old goes new before after)
    (λ goes comes. takes_one g s c.args.until old new (start_event c.in-Some.due) goes before after list c.in-Some.ensures.some comes)
    c.come.ensures.comes

pub returns-in_ok-push-in-Some-clause-follows : goal.returns-in_ok-push-in-Some-clause-follows
returns-in_ok-push-in-Some-clause-follows c =
    IfOk-weaker c.come.result (λ goes. Comes (program_of c.args.rules.now) (config_of c.args.config.now) (start_event c.in-Some.due) goes (config_of c.come.new.config))
    (λ goes. Follows c.args.rules.now c.come.new.config c.args.script.now)
    (λ goes comes. follows_on c.args.rules.now c.args.config.now c.come.new.config c.args.script.now c.requires.follows c.args.until (start_event c.in-Some.due) goes c.requires.until c.in-Some.ensures.some comes)
    c.come.ensures.comes
