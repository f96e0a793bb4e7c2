use Rattle.std.proofs.Common.{arith}
use Rattle.message_unexpected.proofs.Gathered.{all_gathered, gathered}
use Rattle.message_unexpected.proofs.remarks.candidates.Goals as goal

pub loop-index-preserved : goal.loop-index-preserved
loop-index-preserved c =
    gathered c.args.found.now c.loop-index.index _ _ _ _ (omega arith) c.loop-index.invariant c.in_ok-add_candidate.ensures

pub returns : goal.returns
returns c = all_gathered c.args.found.now c.loop-index.index _ _ (omega arith) c.loop-index.invariant
