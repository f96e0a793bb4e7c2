use Rattle.std.proofs.Common.{◌≡◌, drop}
use Rattle.base.specs.Words.{with_word}
use Rattle.source_semantics.specs.Run as run
use Rattle.replay_calls.specs.Reach.{memory_of, site_of}
use Rattle.replay_calls.specs.Seen.{answer_of}
use Rattle.replay_next.specs.Remains.{operands_of}
use Rattle.replay_next.proofs.at_once.operands.Given as goal

abbrev pub invariant-loop-part : goal.invariant-loop-part
invariant-loop-part l =
    let c = site_of l.scope l.home l.depth in
    let m = memory_of l.memory in
    with_word (answer_of l.left) (λ v. run.row_value c m (operands_of (drop l.part-index l.rest)) v)
    ≡ with_word (answer_of l.fn.first) (λ v. run.row_value c m (operands_of l.rest) v)
