use Rattle.std.proofs.Common.{refl, ◌∙◌, ◌+◌, take, drop, get_or, arith, Result, Ok, Err, OnErr}
use Rattle.outside.specs.Outside.{AppendsFront, Appends-nothing, Appends-append, AppendsFront-append, AppendsFront-more}
use Rattle.base.specs.declared.event.Event.{Event}
use Rattle.base.specs.declared.event.Act.TheVariants as act
use Rattle.event_log.specs.Line.{line_of, log_of}
use Rattle.vm_run.proofs.Lines.{log_of-more, log_of-cut, log_of-nil, log_of-some}
use Rattle.vm_run.proofs.put_log.put_all.Goals as goal

pub loop-event-init : goal.loop-event-init
loop-event-init g c = record { taken = rw log_of-nil (Appends-nothing (g.O.Sink.state c.args.out.now).taken); count = omega arith; quiet = refl }

pub loop-event-preserved : goal.loop-event-preserved
loop-event-preserved g c =
    let e : Event = record { tick = 0; proc = 0; act = act.Release } in
    record {
      taken = rw (log_of-more c.args.names.now c.args.events.now c.loop-event.event-index e (omega arith)) (Appends-append _ _ _ _ _ c.loop-event.invariant.taken c.in_ok-put_line.ensures.whole);
      count = omega (arith, c.loop-event.invariant.count, c.put_line.ensures.count);
      quiet = c.in_ok-put_line.ensures.quiet ∙ c.loop-event.invariant.quiet;
    }

-- what holds of every result holds where it is an error
on_err : {A E : Type 0} (r : Result A E) (P : Type 0) → P → OnErr r P
on_err (Ok x) P p = tt
on_err (Err e) P p = p

pub returns-in_err-put_line-clause-front : goal.returns-in_err-put_line-clause-front
returns-in_err-put_line-clause-front g c =
    let e : Event = record { tick = 0; proc = 0; act = act.Release } in
    let put : AppendsFront (g.O.Sink.state c.loop-event.out).taken (g.O.Sink.state c.put_line.new.out).taken (line_of c.args.names.now (get_or c.args.events.now c.loop-event.event-index e)) = c.in_err-put_line.ensures.front in
    on_err c.from_residual.result _
    (rw (log_of-cut c.args.names.now c.args.events.now c.loop-event.event-index e (omega arith))
    (AppendsFront-append (g.O.Sink.state c.args.out.now).taken (g.O.Sink.state c.loop-event.out).taken (g.O.Sink.state c.put_line.new.out).taken (log_of c.args.names.now (take c.loop-event.event-index c.args.events.now)) _ c.loop-event.invariant.taken
    (AppendsFront-more _ _ (line_of c.args.names.now (get_or c.args.events.now c.loop-event.event-index e)) (log_of c.args.names.now (drop (c.loop-event.event-index + 1) c.args.events.now)) put)))

pub returns-in_err-put_line-clause-some : goal.returns-in_err-put_line-clause-some
returns-in_err-put_line-clause-some g c =
    let e : Event = record { tick = 0; proc = 0; act = act.Release } in
    on_err c.from_residual.result _ (log_of-some c.args.names.now c.args.events.now c.loop-event.event-index e (omega arith))
