use Rattle.std.proofs.Common.{◌≡◌, ◌≤◌, ◌++◌, ◌+◌, ◌*◌, ◌^◌, map, drop}
use Rattle.syntax_tree.specs.Placed.{placed, plain, placed_member, plain_member}
use Rattle.std.specs.Prelude.{filter_map}
use Rattle.source_semantics.specs.Names.{variable_in}
use Rattle.code_spec.specs.Layout.{places_from, words_of}
use Rattle.code_names.specs.First.{names_of}
use Rattle.code_layout.specs.LayoutTables.{place_names, told_all}
use Rattle.codegen_spec.specs.declared.var_location.Area.TheVariants as in_area
use Rattle.code_layout.proofs.var_layout.lay_members.Given as goal

abbrev pub invariant-loop-member : goal.invariant-loop-member
invariant-loop-member l = record {
  names : names_of l.laying.names.items ++ place_names (places_from (plain (placed l.values)) l.laying.word (filter_map variable_in (map plain_member (map placed_member (drop l.member-index l.members))))) ≡ names_of l.fn.laying.names.items ++ place_names (places_from (plain (placed l.values)) l.fn.laying.word (filter_map variable_in (map plain_member (map placed_member l.members))));
  spots : l.laying.spots.items ++ told_all in_area.Monitor (places_from (plain (placed l.values)) l.laying.word (filter_map variable_in (map plain_member (map placed_member (drop l.member-index l.members))))) ≡ l.fn.laying.spots.items ++ told_all in_area.Monitor (places_from (plain (placed l.values)) l.fn.laying.word (filter_map variable_in (map plain_member (map placed_member l.members))));
  word : l.laying.word + words_of (plain (placed l.values)) (filter_map variable_in (map plain_member (map placed_member (drop l.member-index l.members)))) ≡ l.fn.laying.word + words_of (plain (placed l.values)) (filter_map variable_in (map plain_member (map placed_member l.members)));
  small : l.laying.word ≤ l.fn.laying.word + l.member-index * 2 ^ 33;
}
