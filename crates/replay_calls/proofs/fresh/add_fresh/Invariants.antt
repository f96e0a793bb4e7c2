use Rattle.std.proofs.Common.{◌≡◌, ◌++◌, map, drop}
use Rattle.syntax_tree.specs.Placed.{placed, placed_var, plain, plain_var}
use Rattle.source_semantics.specs.Store.{fresh}
use Rattle.replay_state.specs.View.{vars_of}
use Rattle.replay_calls.proofs.fresh.add_fresh.Given as goal

abbrev pub invariant-loop-var : goal.invariant-loop-var
invariant-loop-var l = vars_of l.slots.items ++ map (fresh (plain (placed l.declarations))) (map plain_var (map placed_var (drop l.var-index l.vars))) ≡ vars_of l.initial.slots.items ++ map (fresh (plain (placed l.declarations))) (map plain_var (map placed_var l.vars))
