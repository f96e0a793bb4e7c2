use Rattle.std.proofs.Common.{◌≡◌, ◌<◌, ◌+◌, length, arith, refl, ap, ◌∙◌}
use Rattle.std.proofs.lemmas.List.{length-set}
use Rattle.machine_semantics.specs.State.{State}
use Rattle.run_chart.specs.Letters.{letter_at, letter_in}
use Rattle.vm_releases.proofs.Boards.{as_many, cells_count}
use Rattle.vm_chart.specs.Follows.{IsDrawnTo}
use Rattle.vm_chart.proofs.Tracing.{sees, split_end, split_next, split_on, split_start}
use Rattle.vm_chart.proofs.traces.see_all.Goals as goal

pub choose-picked-requires : goal.choose-picked-requires
choose-picked-requires g c =
    omega (arith, as_many g.drawing.image.processes c.args.plan.now.processes.items c.requires.0.processes, cells_count g.drawing.image c.args.board.now.cells.items c.requires.1.0.rooms, c.args.plan.now.processes.ok.0, c.args.board.now.cells.ok.0)

pub loop-process-init : goal.loop-process-init
loop-process-init g c = record {
  count = refl;
  split = split_start (IsDrawnTo g.drawing c.args.tick c.args.tick) (IsDrawnTo g.drawing (c.args.tick + 1) c.args.tick) c.args.traces.now.items c.requires.1.1.1.1.1;
}

pub letter_on-letter-requires : goal.letter_on-letter-requires
letter_on-letter-requires g c = (
  c.choose-picked.ensures g.drawing.image c.requires.0 c.requires.1.0,
  omega (arith, cells_count g.drawing.image c.args.board.now.cells.items c.requires.1.0.rooms, c.args.board.now.cells.ok.0, c.requires.1.1.1.1.0, c.loop-process.traces.ok.0, c.args.traces.now.ok.0, c.loop-process.invariant.count),
)

pub loop-process-preserved : goal.loop-process-preserved
loop-process-preserved g c =
    let d = g.drawing in
    let k = c.loop-process.process in
    let t = c.args.tick in
    let xs = c.loop-process.traces.items in
    let old = c.index_mut.result.now in
    let new = c.see.new.self in
    let low : k < length xs = omega (arith, c.loop-process.traces.ok.0, c.args.traces.now.ok.0, c.loop-process.invariant.count) in
    let is : IsDrawnTo d t t k old = split_next (IsDrawnTo d t t) (IsDrawnTo d (t + 1) t) k xs old c.loop-process.invariant.split low c.index_mut.ensures.value in
    let letter : c.letter_on-letter.result ≡ letter_at d.image d.script k t = c.letter_on-letter.ensures ∙ ap (λ (s : State). letter_in d.image s k) c.requires.1.1.0 in
    let one : IsDrawnTo d (t + 1) t k new = sees d k t old new c.letter_on-letter.result c.requires.1.1.1.0 letter c.see.ensures is in
    record {
      count = length-set xs k new ∙ c.loop-process.invariant.count;
      split = split_on (IsDrawnTo d t t) (IsDrawnTo d (t + 1) t) k xs old new c.loop-process.invariant.split low c.index_mut.ensures.value one;
    }

pub returns-clause-each : goal.returns-clause-each
returns-clause-each g c =
    split_end (IsDrawnTo g.drawing c.args.tick c.args.tick) (IsDrawnTo g.drawing (c.args.tick + 1) c.args.tick) c.loop-process.process c.loop-process.traces.items c.loop-process.invariant.split
    (omega (arith, c.loop-process.traces.ok.0, c.args.traces.now.ok.0, c.loop-process.invariant.count))
