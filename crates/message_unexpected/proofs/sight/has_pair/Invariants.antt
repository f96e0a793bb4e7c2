use Rattle.std.proofs.Common.{◌≡◌, drop, false}
use Rattle.message_unexpected.specs.Remarks.{has_pair}
use Rattle.message_unexpected.proofs.sight.has_pair.Given as goal

abbrev pub invariant-loop-index : goal.invariant-loop-index
invariant-loop-index l = has_pair l.is_behind_else (drop l.index l.all) ≡ has_pair false l.all
