use Rattle.std.proofs.Common.{◌≡◌, ◌<◌, ℕ, None, length, get_or}
use Rattle.image.specs.Raw.{image_of}
use Rattle.analysis_command.specs.Goals.{goal_place}
use Rattle.analysis_command.proofs.goals.goals.Given as goal

abbrev pub invariant-loop-number : goal.invariant-loop-number
invariant-loop-number l = record {
  one_each : length l.all.items ≡ l.number;
  each : (r : ℕ) → r < l.number → get_or l.all.items r None ≡ goal_place (image_of l.image) l.places l.rank l.block r;
}
