use Rattle.std.proofs.Common.{◌≡◌, ◌+◌, ◌-◌, ◌++◌, List, ℕ, arith, ap, ◌∙◌}
use Rattle.std.specs.List.{flat_map, range_with_len}
use Rattle.run_chart.specs.Chart.{of_rank, process_of_run}
use Rattle.vm_chart.proofs.Ranges.{rank_more}
use Rattle.vm_chart.proofs.lines.put_ranks.Goals as goal

pub loop-rank-preserved : goal.loop-rank-preserved
loop-rank-preserved g c =
    let f : ℕ → List ℕ = process_of_run c.args.image.now g.script c.args.columns.now in
    let of : ℕ → List ℕ = of_rank c.args.image.now.image in
    let r = c.loop-rank.rank in
    let next : (r - 1) + 1 ≡ (r + 1) - 1 = omega arith in
    rank_more f of c.args.text.now c.loop-rank.text c.put_rank.new.text (r - 1) r (omega arith) c.loop-rank.invariant c.in_ok-put_rank.ensures
    ∙ ap (λ (n : ℕ). c.args.text.now ++ flat_map f (flat_map of (range_with_len 1 n))) next
