use Rattle.std.proofs.Common.{◌≡◌, ◌++◌, map, drop}
use Rattle.std.specs.Prelude.{filter_map}
use Rattle.syntax_tree.specs.Placed.{placed_decl, plain_decl}
use Rattle.source_semantics.specs.Names.{monitor_in}
use Rattle.replay_state.specs.Queues.{queues_of}
use Rattle.replay.specs.Parts.{monitor_queues}
use Rattle.replay.proofs.queues.empty_queues.Given as goal

abbrev pub invariant-loop-decl : goal.invariant-loop-decl
invariant-loop-decl l =
    queues_of l.queues.items ++ monitor_queues (filter_map monitor_in (map plain_decl (map placed_decl (drop l.decl-index l.decls))))
    ≡ monitor_queues (filter_map monitor_in (map plain_decl (map placed_decl l.decls)))
