use Rattle.std.proofs.Common.{◌≡◌}
use Rattle.code_names.specs.First.{index_of, names_of}
use Rattle.code_names.proofs.NameListTable.{from_on}
use Rattle.code_names.proofs.name_list.first_of.Given as goal

abbrev pub invariant-loop-index : goal.invariant-loop-index
invariant-loop-index l = from_on l.index l.name l.names ≡ index_of l.name (names_of l.names)
