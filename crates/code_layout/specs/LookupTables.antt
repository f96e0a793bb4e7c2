-- What the code's tables say.
use Rattle.std.specs.Prelude.{◌≡◌, List, [], ◌∷◌, cond, Option, Some, None, filter_map, map, bytes_eq}
use Rattle.std.specs.Borrow.{Bor}
use Rattle.syntax_tree.specs.Plain.{Name, Program}
use Rattle.syntax_tree.specs.Placed.{placed_decl, plain_decl}
use Rattle.syntax_tree.specs.declared.decl.Program.{Program as Tree}
use Rattle.source_semantics.specs.Names.{device_in}
use Rattle.source_semantics.specs.Run.{or_else}
use Rattle.code_spec.specs.Layout as layout
use Rattle.code_spec.specs.Layout.{Place, Scope, place_named, outer_spot, spot_of}
use Rattle.code_names.specs.First.{names_of}
use Rattle.codegen_spec.specs.Told.{counter, inside, told_area, told_spot}
use Rattle.codegen_spec.specs.declared.var_location.Area.{Area}
use Rattle.codegen_spec.specs.declared.var_location.Area.TheVariants as in_area
use Rattle.codegen_spec.specs.declared.var_location.Loop.{Loop}
use Rattle.codegen_spec.specs.declared.var_location.VarLocation.{VarLocation}
use Rattle.code_layout.specs.LayoutTables.{Table, table_of, spot_in, told_in, place_names, told_all}

-- the tables are those of one program
pub record AreTables (values numbering : Tree) (devices : List Name) : Type 0 where
  pub one : numbering ≡ values
  pub devices_are : devices ≡ filter_map device_in (map plain_decl (map placed_decl values.decls))

-- the variables that are laid are these, in the area
pub record IsLaid (a : Area) (ps : List Place) (names : List (Bor Name)) (spots : List VarLocation) : Type 0 where
  pub names_are : names_of names ≡ place_names ps
  pub spots_are : spots ≡ told_all a ps

-- what a name means inside one more loop
abbrev pub in_loop : Option VarLocation → Loop → Name → Option VarLocation
in_loop s l x = cond (bytes_eq l.name x) (Some (told_in in_area.Frame (counter l.name l.word))) s

-- what a name means inside loops, the outermost first
abbrev pub loop_told : Option VarLocation → List Loop → Name → Option VarLocation
loop_told s [] x = s
loop_told s (l ∷ ls) x = loop_told (in_loop s l x) ls x

abbrev pub outer_in : Option (Bor Table) → Name → Option VarLocation
outer_in None x = None
outer_in (Some t) x = spot_in t.now x

-- what is told of a name outside of loops: a variable of the frame, else what is beside it
abbrev pub told_before : List Place → Name → Option VarLocation → Option VarLocation
told_before own x outer = or_else (spot_in (table_of in_area.Frame own) x) outer

-- the table of variables in an area tells of a name what the first variable of that name is
abbrev pub TablesTell : Type 0
TablesTell = (a : layout.Area) (ps : List Place) (x : Name) → spot_in (table_of (told_area a) ps) x ≡ told_spot (layout.in_area a (place_named x ps))

-- what is told from the tables is what the name means inside the loops
abbrev pub VariablesAreTold : Type 0
VariablesAreTold =
    (g : Program) (c : Scope) (ls : List Loop) (x : Name) (outer : Option VarLocation) → outer ≡ told_spot (outer_spot g c.owner x)
    → loop_told (told_before c.own x outer) ls x ≡ told_spot (spot_of g (inside ls c) x)
