use Rattle.std.proofs.Common.{◌≡◌, ◌-◌, ◌++◌}
use Rattle.std.specs.List.{flat_map, range_with_len}
use Rattle.run_chart.specs.Chart.{of_rank, process_of_run}
use Rattle.vm_chart.proofs.lines.put_ranks.Given as goal

abbrev pub ghost-put_rank : goal.ghost-put_rank
ghost-put_rank g a = g.script

abbrev pub invariant-loop-rank : goal.invariant-loop-rank
invariant-loop-rank g l = l.text ≡ l.initial.text ++ flat_map (process_of_run l.image g.script l.columns) (flat_map (of_rank l.image.image) (range_with_len 1 (l.rank - 1)))
