use Rattle.std.proofs.Common.{◌<◌, ◌+◌, length, arith, refl, ◌∙◌}
use Rattle.std.proofs.lemmas.List.{length-set}
use Rattle.run_chart.specs.Columns.{end_of}
use Rattle.vm_chart.specs.Follows.{IsDrawnTo}
use Rattle.vm_chart.proofs.Ending.{column_over}
use Rattle.vm_chart.proofs.Following.{end_by_next}
use Rattle.vm_chart.proofs.Tracing.{split_end, split_next, split_on, split_start}
use Rattle.vm_chart.proofs.traces.end_all.Goals as goal

pub loop-process-init : goal.loop-process-init
loop-process-init g c =
    let d = g.drawing in
    let t = end_of d.columns d.column in
    record { count = refl; split = split_start (IsDrawnTo d t t) (IsDrawnTo (record d { column = d.column + 1 }) t t) c.args.traces.now.items c.requires.1.1 }

pub loop-process-preserved : goal.loop-process-preserved
loop-process-preserved g c =
    let d = g.drawing in
    let t = end_of d.columns d.column in
    let next = record d { column = d.column + 1 } in
    let k = c.loop-process.process in
    let xs = c.loop-process.traces.items in
    let old = c.index_mut.result.now in
    let new = c.end_column.new.self in
    let low : k < length xs = omega (arith, c.loop-process.traces.ok.0, c.args.traces.now.ok.0, c.loop-process.invariant.count) in
    let is : IsDrawnTo d t t k old = split_next (IsDrawnTo d t t) (IsDrawnTo next t t) k xs old c.loop-process.invariant.split low c.index_mut.ensures.value in
    record {
      count = length-set xs k new ∙ c.loop-process.invariant.count;
      split =
          split_on (IsDrawnTo d t t) (IsDrawnTo next t t) k xs old new c.loop-process.invariant.split low c.index_mut.ensures.value
          (column_over d k t old new refl (end_by_next d.columns d.column) c.in_ok-end_column.ensures is);
    }

pub returns-clause-each : goal.returns-clause-each
returns-clause-each g c =
    let d = g.drawing in
    let t = end_of d.columns d.column in
    split_end (IsDrawnTo d t t) (IsDrawnTo (record d { column = d.column + 1 }) t t) c.loop-process.process c.loop-process.traces.items c.loop-process.invariant.split
    (omega (arith, c.loop-process.traces.ok.0, c.args.traces.now.ok.0, c.loop-process.invariant.count))
