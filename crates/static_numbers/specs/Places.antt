-- The places of the names of a program's things, by kind.
use Rattle.std.specs.Prelude.{List, ◌++◌}
use Rattle.syntax_tree.specs.Placed.{Decl, Prog}
use Rattle.syntax_tree.specs.declared.place.Place.{Place}
use Rattle.syntax_tree.specs.Parts as of_tree
use Rattle.static_numbers.specs.Counts as of_counts

-- entries are among the routines
pub record Places : Type 0 where
  pub processes : List Place
  pub monitors : List Place
  pub devices : List Place
  pub events : List Place
  pub conditions : List Place
  pub routines : List Place

-- once the things of some declarations are known too
abbrev pub with_decls : Places → List (Decl Place) → Places
with_decls p ds = record {
  processes = p.processes ++ of_counts.process_places ds;
  monitors = p.monitors ++ of_counts.monitor_places ds;
  devices = p.devices ++ of_tree.devices ds;
  events = p.events ++ of_tree.events ds;
  conditions = p.conditions ++ of_counts.conditions (of_tree.monitors ds);
  routines = p.routines ++ of_counts.routine_places ds;
}

abbrev pub places_of : Prog Place → Places
places_of g = record {
  processes = of_counts.process_places g.decls;
  monitors = of_counts.monitor_places g.decls;
  devices = of_tree.devices g.decls;
  events = of_tree.events g.decls;
  conditions = of_counts.conditions (of_tree.monitors g.decls);
  routines = of_counts.routine_places g.decls;
}
