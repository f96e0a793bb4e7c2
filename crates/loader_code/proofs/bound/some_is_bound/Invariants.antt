use Rattle.std.proofs.Common.{◌≡◌, get_or, drop, false}
use Rattle.valid_image.specs.Tables.{some_of}
use Rattle.loader_code.proofs.bound.some_is_bound.Given as goal

abbrev pub invariant-loop-routine : goal.invariant-loop-routine
invariant-loop-routine l = some_of (λ r. get_or l.bounds r false) (drop l.routine-index l.called) ≡ some_of (λ r. get_or l.bounds r false) l.called
