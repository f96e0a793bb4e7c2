use Rattle.std.proofs.Common.{◌≡◌, map, drop}
use Rattle.std.specs.Prelude.{filter_map}
use Rattle.syntax_tree.specs.Placed.{placed_decl, plain_decl}
use Rattle.source_semantics.specs.Names.{named, routine_in}
use Rattle.source_semantics.specs.Run.{entry_name}
use Rattle.replay_calls.proofs.names.declared.Given as goal

abbrev pub invariant-loop-decl : goal.invariant-loop-decl
invariant-loop-decl l = named entry_name l.name (filter_map routine_in (map plain_decl (map placed_decl (drop l.decl-index l.decls)))) ≡ named entry_name l.name (filter_map routine_in (map plain_decl (map placed_decl l.decls)))
