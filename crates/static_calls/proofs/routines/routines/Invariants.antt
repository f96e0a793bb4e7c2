use Rattle.std.proofs.Common.{◌≡◌, ◌++◌, map, drop}
use Rattle.syntax_tree.specs.Placed.{placed_decl}
use Rattle.syntax_tree.specs.Parts.{routines}
use Rattle.static_calls.specs.Tables.{seen_routines}
use Rattle.static_calls.proofs.routines.routines.Given as goal

abbrev pub invariant-loop-decl : goal.invariant-loop-decl
invariant-loop-decl l = seen_routines l.list.items ++ routines (map placed_decl (drop l.decl-index l.decls)) ≡ routines (map placed_decl l.decls)
