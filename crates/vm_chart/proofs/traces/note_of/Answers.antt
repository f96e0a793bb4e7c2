use Rattle.std.proofs.Common.{◌^◌, ◌<◌, ◌++◌, List, get_or, length, arith, refl, subst, sym, ◌∙◌}
use Rattle.std.proofs.lemmas.List.{append-nil, take_all}
use Rattle.std.proofs.lemmas.Option.{slice_get-get_or}
use Rattle.base.specs.declared.event.Act.TheVariants as act
use Rattle.base.specs.declared.event.Event.{Event}
use Rattle.run_chart.specs.Traces.{Counts}
use Rattle.vm_chart.proofs.Tracing.{counts_next, few_next}
use Rattle.vm_chart.proofs.traces.note_of.Goals as goal

pub loop-at-init : goal.loop-at-init
loop-at-init g c = record {
  counts = subst (λ (es : List Event). Counts c.args.process c.args.first es c.args.trace.now) (sym (append-nil g.before)) c.requires.0;
  row = refl;
  letter = refl;
}

pub note_at-requires : goal.note_at-requires
note_at-requires g c =
    let es : List Event = c.args.events.now in
    let i = c.loop-at.at in
    (c.loop-at.invariant.counts, (few_next g.before es i (2 ^ 63) c.requires.1.0, (omega arith, c.requires.1.1)))

pub loop-at-preserved : goal.loop-at-preserved
loop-at-preserved g c =
    let none : Event = record { tick = 0; proc = 0; act = act.Release } in
    let low : c.loop-at.at < length c.args.events.now = omega arith in
    record {
      counts = counts_next c.args.process c.args.first g.before c.args.events.now c.loop-at.at none c.note_at.new.trace low
          (c.note_at.ensures.counts (get_or c.args.events.now c.loop-at.at none) (slice_get-get_or c.args.events.now c.loop-at.at none low));
      row = c.note_at.ensures.row ∙ c.loop-at.invariant.row;
      letter = c.note_at.ensures.letter ∙ c.loop-at.invariant.letter;
    }

pub returns-clause-counts : goal.returns-clause-counts
returns-clause-counts g c =
    subst (λ (es : List Event). Counts c.args.process c.args.first (g.before ++ es) c.loop-at.trace)
    (take_all c.loop-at.at c.args.events.now (omega arith)) c.loop-at.invariant.counts
