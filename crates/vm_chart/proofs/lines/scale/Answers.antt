use Rattle.std.proofs.Common.{◌*◌, ◌++◌, List, ℕ, ap, sym, ◌∙◌}
use Rattle.std.specs.Prelude.{decimal}
use Rattle.run_chart.specs.Chart.{filled}
use Rattle.run_chart.specs.Spans.{first_tick}
use Rattle.vm_chart.proofs.Ranges.{marks_more}
use Rattle.vm_chart.proofs.lines.scale.Goals as goal

pub loop-mark-preserved : goal.loop-mark-preserved
loop-mark-preserved c =
    let n = c.loop-mark.mark in
    c.in_ok-put_mark.ensures
    ∙ (ap (λ (text : List ℕ). filled (10 * n) text ++ decimal (first_tick c.args.columns.now (10 * n))) c.loop-mark.invariant
    ∙ sym (marks_more c.args.columns.now n))
