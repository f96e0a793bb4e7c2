use Rattle.std.proofs.Common.{◌≡◌, ◌++◌, map, drop}
use Rattle.std.specs.Prelude.{filter_map}
use Rattle.syntax_tree.specs.Placed.{placed_decl, plain_decl}
use Rattle.source_semantics.specs.Names.{process_in}
use Rattle.replay.specs.Parts.{seen_processes}
use Rattle.replay.proofs.processes.process_list.Given as goal

abbrev pub invariant-loop-decl : goal.invariant-loop-decl
invariant-loop-decl l = seen_processes l.list.items ++ filter_map process_in (map plain_decl (map placed_decl (drop l.decl-index l.decls))) ≡ filter_map process_in (map plain_decl (map placed_decl l.decls))
