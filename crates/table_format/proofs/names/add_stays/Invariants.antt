use Rattle.std.proofs.Common.{drop, ◌≡◌, ◌++◌}
use Rattle.table_format.specs.Parts.{seen}
use Rattle.table_format.proofs.names.add_stays.Given as goal

abbrev pub invariant-loop-stay : goal.invariant-loop-stay
invariant-loop-stay l = seen l.all.items ++ (drop l.stay-index l.stays) ≡ seen l.fn.all.items ++ l.stays
