use Rattle.std.proofs.Common.{◌≡◌, ◌≤◌, ◌++◌, ◌+◌, ◌*◌, ◌^◌, map, drop}
use Rattle.syntax_tree.specs.Placed.{placed, plain, placed_var, plain_var}
use Rattle.code_spec.specs.Layout.{places_from, words_of}
use Rattle.code_names.specs.First.{names_of}
use Rattle.code_layout.specs.LayoutTables.{place_names, told_all}
use Rattle.code_layout.proofs.var_layout.lay_vars.Given as goal

abbrev pub invariant-loop-var : goal.invariant-loop-var
invariant-loop-var l = record {
  names : names_of l.laying.names.items ++ place_names (places_from (plain (placed l.values)) l.laying.word (map plain_var (map placed_var (drop l.var-index l.vars)))) ≡ names_of l.fn.laying.names.items ++ place_names (places_from (plain (placed l.values)) l.fn.laying.word (map plain_var (map placed_var l.vars)));
  spots : l.laying.spots.items ++ told_all l.area (places_from (plain (placed l.values)) l.laying.word (map plain_var (map placed_var (drop l.var-index l.vars)))) ≡ l.fn.laying.spots.items ++ told_all l.area (places_from (plain (placed l.values)) l.fn.laying.word (map plain_var (map placed_var l.vars)));
  word : l.laying.word + words_of (plain (placed l.values)) (map plain_var (map placed_var (drop l.var-index l.vars))) ≡ l.fn.laying.word + words_of (plain (placed l.values)) (map plain_var (map placed_var l.vars));
  small : l.laying.word ≤ l.fn.laying.word + l.var-index * 2 ^ 33;
}
