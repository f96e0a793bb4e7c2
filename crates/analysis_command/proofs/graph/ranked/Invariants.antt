use Rattle.std.proofs.Common.{◌≡◌, ◌<◌, ℕ, length, get_or}
use Rattle.image.specs.Raw.{image_of}
use Rattle.valid_image.specs.Tasks.{process_at}
use Rattle.analysis_command.proofs.graph.ranked.Given as goal

abbrev pub invariant-loop-level : goal.invariant-loop-level
invariant-loop-level l = record {
  one_each : length l.all.items ≡ l.level;
  each : (k : ℕ) → k < l.level → get_or l.all.items k 0 ≡ process_at (image_of l.image) k;
}
