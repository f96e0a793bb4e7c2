use Rattle.std.proofs.Common.{◌≡◌, ◌<◌, ℕ, length, get_or, None}
use Rattle.image.specs.Raw.{image_of}
use Rattle.valid_image.specs.Tables.{stay_of_process}
use Rattle.loader.proofs.longest_stay.of_processes.Given as goal

abbrev pub invariant-loop-number : goal.invariant-loop-number
invariant-loop-number l = record {
  one_each : length l.all ≡ l.number;
  each : (k : ℕ) → k < l.number → get_or l.all k None ≡ stay_of_process (image_of l.image) k l.monitor;
}
