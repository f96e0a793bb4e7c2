use Rattle.std.proofs.Common.{◌≡◌, ◌+◌, ◌-◌, length}
use Rattle.table_format.specs.Parts.{first_free, seen}
use Rattle.table_format.proofs.Tails.{free_from}
use Rattle.table_format.proofs.names.free_tail.Given as goal

abbrev pub invariant-loop-number : goal.invariant-loop-number
invariant-loop-number l = free_from (seen l.names) (seen l.stays) l.number (length l.names + 1 - l.number) ≡ first_free (seen l.names) (seen l.stays)
