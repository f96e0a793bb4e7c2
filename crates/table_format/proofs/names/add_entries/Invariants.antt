use Rattle.std.proofs.Common.{map, drop, ◌≡◌, ◌++◌}
use Rattle.table_format.specs.Program.{stay_name}
use Rattle.table_format.specs.Parts.{seen}
use Rattle.table_format.proofs.names.add_entries.Given as goal

abbrev pub invariant-loop-stay : goal.invariant-loop-stay
invariant-loop-stay l = l.made ++ map (λ s. stay_name s.ticks ++ l.tail) (seen (drop l.stay-index l.stays)) ≡ l.fn.made ++ map (λ s. stay_name s.ticks ++ l.tail) (seen l.stays)
