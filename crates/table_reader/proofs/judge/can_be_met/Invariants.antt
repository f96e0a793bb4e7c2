use Rattle.std.proofs.Common.{◌≡◌, ◌+◌, ◌-◌, take, All}
use Rattle.std.specs.Prelude.{sum_by}
use Rattle.table_reader.proofs.Loops.{IsMet, taken_by}
use Rattle.table_reader.proofs.judge.can_be_met.Given as goal

abbrev pub invariant-loop-stay : goal.invariant-loop-stay
invariant-loop-stay l = record {
  met : All IsMet (take l.stay-index l.task.stays);
  left : l.left ≡ l.task.cost - (3 + sum_by taken_by (take l.stay-index l.task.stays));
}
