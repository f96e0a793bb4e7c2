use Rattle.std.proofs.Common.{◌≡◌, ◌++◌, ◌+◌, map, drop}
use Rattle.syntax_tree.specs.Placed.{placed, plain, placed_param, plain_param}
use Rattle.code_spec.specs.Layout.{param_places}
use Rattle.code_names.specs.First.{names_of}
use Rattle.code_layout.specs.LayoutTables.{place_names, told_all}
use Rattle.codegen_spec.specs.declared.var_location.Area.TheVariants as in_area
use Rattle.code_layout.proofs.var_layout.lay_params.Given as goal

abbrev pub invariant-loop-param : goal.invariant-loop-param
invariant-loop-param l = record {
  names : names_of l.laying.names.items ++ place_names (param_places (plain (placed l.values)) l.laying.word (map plain_param (map placed_param (drop l.param-index l.params)))) ≡ names_of l.fn.laying.names.items ++ place_names (param_places (plain (placed l.values)) l.fn.laying.word (map plain_param (map placed_param l.params)));
  spots : l.laying.spots.items ++ told_all in_area.Frame (param_places (plain (placed l.values)) l.laying.word (map plain_param (map placed_param (drop l.param-index l.params)))) ≡ l.fn.laying.spots.items ++ told_all in_area.Frame (param_places (plain (placed l.values)) l.fn.laying.word (map plain_param (map placed_param l.params)));
  word : l.laying.word ≡ l.fn.laying.word + l.param-index;
}
