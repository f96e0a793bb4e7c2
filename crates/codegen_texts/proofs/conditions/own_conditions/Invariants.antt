use Rattle.std.proofs.Common.{◌≡◌, ◌++◌, map, drop}
use Rattle.std.specs.Prelude.{filter_map}
use Rattle.syntax_tree.specs.Placed.{placed_member, plain_member}
use Rattle.source_semantics.specs.Names.{condition_in}
use Rattle.code_names.specs.First.{names_of}
use Rattle.codegen_texts.proofs.conditions.own_conditions.Given as goal

abbrev pub invariant-loop-member : goal.invariant-loop-member
invariant-loop-member l = names_of l.names.items ++ filter_map condition_in (map plain_member (map placed_member (drop l.member-index l.member-items))) ≡ filter_map condition_in (map plain_member (map placed_member l.member-items))
