use Rattle.std.proofs.Common.{◌≡◌, ◌++◌, drop, map}
use Rattle.message_unexpected.specs.Remarks.{candidates}
use Rattle.message_unexpected.proofs.remarks.candidates.Given as goal

abbrev pub invariant-loop-index : goal.invariant-loop-index
invariant-loop-index l = map (λ word. word.now) l.words.items ++ candidates (drop l.index l.found) ≡ candidates l.found
