use Rattle.std.proofs.Common.{◌≡◌, get_or, drop, None}
use Rattle.valid_image.specs.Tables.{longest_of}
use Rattle.loader.proofs.longest_stay.longest.Given as goal

abbrev pub invariant-loop-index : goal.invariant-loop-index
invariant-loop-index l = l.best ≡ longest_of (λ r. get_or l.row r None) (drop l.index l.called)
