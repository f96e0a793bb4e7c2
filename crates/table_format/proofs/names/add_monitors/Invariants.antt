use Rattle.std.proofs.Common.{map, drop, ◌≡◌, ◌++◌}
use Rattle.table_format.specs.Parts.{seen}
use Rattle.table_format.proofs.names.add_monitors.Given as goal

abbrev pub invariant-loop-stay : goal.invariant-loop-stay
invariant-loop-stay l = seen l.all.items ++ map (λ s. s.monitor) (seen (drop l.stay-index l.stays)) ≡ seen l.fn.all.items ++ map (λ s. s.monitor) (seen l.stays)
