use Rattle.std.proofs.Common.{◌≡◌, ◌<◌, ◌+◌, ◌++◌, ℕ, List, length, arith, refl, ap, sym, subst, ◌∙◌}
use Rattle.std.proofs.lemmas.List.{length-append, length-set}
use Rattle.base.specs.declared.event.Event.{Event}
use Rattle.run_chart.specs.Traces.{Counts}
use Rattle.vm_chart.specs.Follows.{IsDrawnTo, events_before}
use Rattle.vm_chart.proofs.Tracing.{before_later, notes, split_end, split_next, split_on, split_start}
use Rattle.vm_chart.proofs.traces.note_all.Goals as goal

pub loop-process-init : goal.loop-process-init
loop-process-init g c = record {
  count = refl;
  split = split_start (IsDrawnTo g.passing.drawing c.args.to c.args.from) (IsDrawnTo g.passing.drawing c.args.to c.args.to) c.args.traces.now.items c.requires.1.1.1.1.1.0;
}

pub note_of-requires : goal.note_of-requires
note_of-requires g c =
    let d = g.passing.drawing in
    let k = c.loop-process.process in
    let old = c.index_mut.result.now in
    let low : k < length c.loop-process.traces.items = omega (arith, c.loop-process.traces.ok.0, c.args.traces.now.ok.0, c.loop-process.invariant.count) in
    let is : IsDrawnTo d c.args.to c.args.from k old =
    split_next (IsDrawnTo d c.args.to c.args.from) (IsDrawnTo d c.args.to c.args.to) k c.loop-process.traces.items old c.loop-process.invariant.split low c.index_mut.ensures.value in
    let before : List Event = events_before d.image d.script c.args.from in
    let all : events_before d.image d.script c.args.to ≡ before ++ c.args.events.now =
    before_later d.image d.script c.args.from c.args.to c.requires.1.1.0 ∙ ap (λ (es : List Event). before ++ es) (sym c.requires.1.0) in
    let count : length (events_before d.image d.script c.args.to) ≡ length before + length c.args.events.now = ap (λ (es : List Event). length es) all ∙ length-append before c.args.events.now in
    let begin : c.args.from ≡ g.passing.from = c.requires.1.1.1.1.1.1 in
    let same : length before ≡ length (events_before d.image d.script g.passing.from) = ap (λ (t : ℕ). length (events_before d.image d.script t)) begin in (
      subst (λ (t : ℕ). Counts k c.args.first (events_before d.image d.script t) old) begin (subst (λ (n : ℕ). Counts k n before old) (sym c.requires.0) is.counts),
      (omega (arith, count, same, c.requires.1.1.1.0), c.requires.1.1.1.1.0),
    )

pub loop-process-preserved : goal.loop-process-preserved
loop-process-preserved g c =
    let d = g.passing.drawing in
    let k = c.loop-process.process in
    let xs = c.loop-process.traces.items in
    let old = c.index_mut.result.now in
    let new = c.note_of.new.trace in
    let low : k < length xs = omega (arith, c.loop-process.traces.ok.0, c.args.traces.now.ok.0, c.loop-process.invariant.count) in
    let is : IsDrawnTo d c.args.to c.args.from k old =
    split_next (IsDrawnTo d c.args.to c.args.from) (IsDrawnTo d c.args.to c.args.to) k xs old c.loop-process.invariant.split low c.index_mut.ensures.value in
    let one : IsDrawnTo d c.args.to c.args.to k new =
    notes d k c.args.from c.args.to c.args.events.now old new c.requires.1.1.0 c.requires.1.0
    (subst (λ (n : ℕ). Counts k n (events_before d.image d.script c.args.from ++ c.args.events.now) new) c.requires.0
    (subst (λ (t : ℕ). Counts k c.args.first (events_before d.image d.script t ++ c.args.events.now) new) (sym c.requires.1.1.1.1.1.1) c.note_of.ensures.counts))
    c.note_of.ensures.row c.note_of.ensures.letter is in
    record {
      count = length-set xs k new ∙ c.loop-process.invariant.count;
      split = split_on (IsDrawnTo d c.args.to c.args.from) (IsDrawnTo d c.args.to c.args.to) k xs old new c.loop-process.invariant.split low c.index_mut.ensures.value one;
    }

pub returns-clause-each : goal.returns-clause-each
returns-clause-each g c =
    split_end (IsDrawnTo g.passing.drawing c.args.to c.args.from) (IsDrawnTo g.passing.drawing c.args.to c.args.to) c.loop-process.process c.loop-process.traces.items c.loop-process.invariant.split
    (omega (arith, c.loop-process.traces.ok.0, c.args.traces.now.ok.0, c.loop-process.invariant.count))
