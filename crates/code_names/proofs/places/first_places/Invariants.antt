use Rattle.code_names.specs.Goals.{AreFirstPlaces}
use Rattle.code_names.proofs.places.first_places.Given as goal

abbrev pub invariant-loop-number : goal.invariant-loop-number
invariant-loop-number l = AreFirstPlaces l.goals l.calls l.number l.all.items
