-- Where variables lie, as the code's tables have it.
use Rattle.std.specs.Prelude.{List, map, Option, option_map, pos}
use Rattle.syntax_tree.specs.Plain.{Name}
use Rattle.code_names.specs.First.{index_of}
use Rattle.code_names.proofs.NameListTable.{get_some}
use Rattle.code_spec.specs.Layout.{Place}
use Rattle.codegen_spec.specs.Told.{fit, told_shape, told_range}
use Rattle.codegen_spec.specs.declared.var_location.Area.{Area}
use Rattle.codegen_spec.specs.declared.var_location.VarLocation.{VarLocation}

-- a variable of an area as it is told
abbrev pub told_in : Area → Place → VarLocation
told_in a p = record { area = a; word = fit (pos p.word); shape = told_shape p.shape; range = option_map told_range p.range }

abbrev pub place_names : List Place → List Name
place_names ps = map (λ p. p.name) ps

abbrev pub told_all : Area → List Place → List VarLocation
told_all a ps = map (told_in a) ps

-- names, and what each is told as
pub record Table : Type 0 where
  pub names : List Name
  pub spots : List VarLocation

-- what the first of that name is told as
abbrev pub spot_in : Table → Name → Option VarLocation
spot_in t n = get_some t.spots (index_of n t.names)

-- the table of variables in an area
abbrev pub table_of : Area → List Place → Table
table_of a ps = record { names = place_names ps; spots = told_all a ps }
