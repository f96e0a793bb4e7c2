use Rattle.std.proofs.Common.{◌≡◌, drop, map}
use Rattle.syntax_tree.specs.Placed.{placed, placed_constant, plain, plain_constant}
use Rattle.source_semantics.specs.Source.{lists_constant}
use Rattle.replay_state.proofs.raising.is_listed.Given as goal

abbrev pub invariant-loop-constant : goal.invariant-loop-constant
invariant-loop-constant l =
    lists_constant (plain (placed l.declarations)) l.number (map plain_constant (map placed_constant (drop l.constant-index l.constants)))
    ≡ lists_constant (plain (placed l.declarations)) l.number (map plain_constant (map placed_constant l.constants))
