use Rattle.std.proofs.Common.{◌≡◌, ◌+◌, take}
use Rattle.std.specs.Prelude.{sum_by}
use Rattle.code_cost.specs.Sums.{held}
use Rattle.code_cost.proofs.lengths.code_length.Given as goal

abbrev pub invariant-loop-row : goal.invariant-loop-row
invariant-loop-row l = l.total ≡ held (sum_by (λ row. row.length) (take l.row-index l.row-items))

abbrev pub invariant-loop-size : goal.invariant-loop-size
invariant-loop-size l = l.total ≡ held (sum_by (λ row. row.length) l.measures.routines + sum_by (λ size. size.length) (take l.size-index l.size-items))
