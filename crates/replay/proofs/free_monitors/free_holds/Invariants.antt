use Rattle.std.proofs.Common.{◌≡◌, ◌++◌, map, drop}
use Rattle.std.specs.Prelude.{filter_map}
use Rattle.syntax_tree.specs.Placed.{placed, placed_decl, plain, plain_decl}
use Rattle.source_semantics.specs.Names.{monitor_in}
use Rattle.source_semantics.specs.Config.{free_hold}
use Rattle.replay_state.specs.View.{holds_of}
use Rattle.replay.proofs.free_monitors.free_holds.Given as goal

abbrev pub invariant-loop-decl : goal.invariant-loop-decl
invariant-loop-decl l =
    holds_of l.holds.items ++ map (free_hold (plain (placed l.declarations))) (filter_map monitor_in (map plain_decl (map placed_decl (drop l.decl-index l.decls))))
    ≡ map (free_hold (plain (placed l.declarations))) (filter_map monitor_in (map plain_decl (map placed_decl l.decls)))
