use Rattle.std.proofs.Common.{◌≡◌, ◌++◌, map, drop}
use Rattle.syntax_tree.specs.Placed.{placed_decl}
use Rattle.syntax_tree.specs.Parts.{processes}
use Rattle.static_calls.specs.Tables.{seen_processes}
use Rattle.static_calls.proofs.routines.processes.Given as goal

abbrev pub invariant-loop-decl : goal.invariant-loop-decl
invariant-loop-decl l = seen_processes l.list.items ++ processes (map placed_decl (drop l.decl-index l.decls)) ≡ processes (map placed_decl l.decls)
