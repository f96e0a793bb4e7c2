use Rattle.std.proofs.Common.{◌≡◌, drop}
use Rattle.code_names.specs.Goals.{reached_from}
use Rattle.code_names.proofs.nearest.first_reached.Given as goal

abbrev pub invariant-loop-index : goal.invariant-loop-index
invariant-loop-index l = l.best ≡ reached_from l.row l.calls (drop l.index l.pieces)
