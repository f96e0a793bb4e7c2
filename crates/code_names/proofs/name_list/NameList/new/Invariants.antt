use Rattle.std.proofs.Common.{◌≡◌, drop}
use Rattle.code_names.specs.First.{first_index, with_names, nothing, names_of}
use Rattle.code_names.proofs.name_list.NameList.new.Given as goal

abbrev pub invariant-loop-index : goal.invariant-loop-index
invariant-loop-index l = with_names (first_index l.first.entries) l.index (names_of (drop l.index l.fn.names.items)) ≡ with_names nothing 0 (names_of l.fn.names.items)
