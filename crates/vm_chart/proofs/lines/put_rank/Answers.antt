use Rattle.std.specs.Prelude.{nat_eq}
use Rattle.run_chart.specs.Chart.{process_of_run, declared_rank_of}
use Rattle.vm_chart.proofs.Ranges.{line_more}
use Rattle.vm_chart.proofs.lines.put_rank.Goals as goal

pub loop-number-preserved : goal.loop-number-preserved
loop-number-preserved g c =
    line_more (process_of_run c.args.image.now g.script c.args.columns.now) (λ k. nat_eq (declared_rank_of c.args.image.now.image k) c.args.rank) _ _ _ _ c.loop-number.invariant c.in_ok-put_if.ensures
