use Rattle.std.proofs.Common.{◌≡◌, drop}
use Rattle.code_names.specs.Goals.{earliest_of}
use Rattle.code_names.proofs.places.earliest.Given as goal

abbrev pub invariant-loop-index : goal.invariant-loop-index
invariant-loop-index l = l.best ≡ earliest_of l.row (drop l.index l.called)
