use Rattle.std.proofs.Common.{◌++◌, ◌∷◌, [], subst}
use Rattle.std.proofs.lemmas.Option.{get_or_from_slice_get}
use Rattle.base.specs.declared.event.Act.TheVariants as act
use Rattle.base.specs.declared.event.Event.{Event}
use Rattle.run_chart.specs.Traces.{Counts}
use Rattle.vm_chart.proofs.Tracing.{timely_next}
use Rattle.vm_chart.proofs.traces.note_at.Goals as goal

pub note_if-requires : goal.note_if-requires
note_if-requires g c =
    let none : Event = record { tick = 0; proc = 0; act = act.Release } in
    (c.requires.0, (c.requires.1.0, timely_next c.args.events.now c.args.at none c.requires.1.1.1 c.requires.1.1.0))

pub returns-clause-counts : goal.returns-clause-counts
returns-clause-counts g c event is =
    let none : Event = record { tick = 0; proc = 0; act = act.Release } in
    subst (λ (e : Event). Counts c.args.process c.args.first (g.before ++ e ∷ []) c.note_if.new.trace) (get_or_from_slice_get c.args.events.now c.args.at event none is) c.note_if.ensures.counts
