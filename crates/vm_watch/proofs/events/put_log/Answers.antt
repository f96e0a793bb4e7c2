use Rattle.std.proofs.Common.{◌≡◌, ◌∙◌, ◌+◌, ◌++◌, List, ℕ, [], drop, get_or, arith, ap, sym, append_assoc}
use Rattle.std.proofs.lemmas.List.{append-nil, drop_all}
use Rattle.base.specs.declared.event.Event.{Event}
use Rattle.base.specs.declared.event.Act.TheVariants as act
use Rattle.event_log.specs.Line.{line_of, log_of}
use Rattle.vm_watch.proofs.StopTextLines.{log_of-drop}
use Rattle.vm_watch.proofs.events.put_log.Goals as goal
use Rattle.vm_run.proofs.Lines.{log_of-nil}

pub loop-event-preserved : goal.loop-event-preserved
loop-event-preserved c =
    let e : Event = record { tick = 0; proc = 0; act = act.Release } in
    let names = c.args.names.now in
    let events = c.args.events.now in
    let index = c.loop-event.event-index in
    let put : c.put_event.new.text ≡ c.loop-event.text ++ line_of names (get_or events index e) = c.in_ok-put_event.ensures in
    ap (λ (t : List ℕ). t ++ log_of names (drop (index + 1) events)) put
    ∙ (append_assoc c.loop-event.text (line_of names (get_or events index e)) (log_of names (drop (index + 1) events))
    ∙ (ap (λ (t : List ℕ). c.loop-event.text ++ t) (sym (log_of-drop names events index e (omega arith))) ∙ c.loop-event.invariant))

pub returns : goal.returns
returns c =
    let names = c.args.names.now in
    let text = c.loop-event.text in
    let none : drop c.loop-event.event-index c.args.events.now ≡ [] = drop_all c.loop-event.event-index c.args.events.now (omega arith) in
    let last : text ++ log_of names (drop c.loop-event.event-index c.args.events.now) ≡ text =
    ap (λ (es : List Event). text ++ log_of names es) none ∙ (ap (λ (t : List ℕ). text ++ t) (log_of-nil names) ∙ append-nil text) in
    sym last ∙ c.loop-event.invariant
