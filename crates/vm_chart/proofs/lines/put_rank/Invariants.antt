use Rattle.std.proofs.Common.{◌≡◌, ◌++◌}
use Rattle.std.specs.Prelude.{filter, nat_eq}
use Rattle.std.specs.List.{flat_map, range_with_len}
use Rattle.run_chart.specs.Chart.{process_of_run, declared_rank_of}
use Rattle.vm_chart.proofs.lines.put_rank.Given as goal

abbrev pub ghost-put_if : goal.ghost-put_if
ghost-put_if g a = g.script

abbrev pub invariant-loop-number : goal.invariant-loop-number
invariant-loop-number g l = l.text ≡ l.initial.text ++ flat_map (process_of_run l.image g.script l.columns) (filter (λ k. nat_eq (declared_rank_of l.image.image k) l.rank) (range_with_len 0 l.number))
