use Rattle.std.proofs.Common.{◌≡◌, drop}
use Rattle.std.specs.Prelude.{None}
use Rattle.syntax_tree.specs.Placed.{placed, placed_process, plain, plain_process}
use Rattle.source_semantics.specs.Next.{next_from}
use Rattle.replay_state.specs.View.{calls_of, vars_of}
use Rattle.replay_calls.specs.Reach.{area_of}
use Rattle.replay_next.proofs.next.next_from.Given as goal

abbrev pub invariant-loop-at : goal.invariant-loop-at
invariant-loop-at l =
    let g = plain (placed l.scope.declarations.now) in
    let p = plain_process (placed_process l.scope.process.now) in
    next_from g p (calls_of (drop l.at l.calls)) l.given (area_of l.memory.process) (area_of l.memory.monitor)
    ≡ next_from g p (calls_of l.calls) None (vars_of l.process) (vars_of l.monitor)
