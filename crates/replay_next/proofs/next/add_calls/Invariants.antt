use Rattle.std.proofs.Common.{◌≡◌, ◌++◌, drop}
use Rattle.replay_state.specs.View.{calls_of}
use Rattle.replay_next.proofs.next.add_calls.Given as goal

abbrev pub invariant-loop-call : goal.invariant-loop-call
invariant-loop-call l = calls_of l.all.items ++ calls_of (drop l.call-index l.calls) ≡ calls_of l.initial.all.items ++ calls_of l.calls
