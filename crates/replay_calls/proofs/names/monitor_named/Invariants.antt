use Rattle.std.proofs.Common.{◌≡◌, map, drop}
use Rattle.std.specs.Prelude.{filter_map}
use Rattle.syntax_tree.specs.Placed.{placed_decl, plain_decl}
use Rattle.source_semantics.specs.Names.{named, monitor_in}
use Rattle.replay_calls.proofs.names.monitor_named.Given as goal

abbrev pub invariant-loop-decl : goal.invariant-loop-decl
invariant-loop-decl l = named (λ k. k.name) l.name (filter_map monitor_in (map plain_decl (map placed_decl (drop l.decl-index l.decls)))) ≡ named (λ k. k.name) l.name (filter_map monitor_in (map plain_decl (map placed_decl l.decls)))
