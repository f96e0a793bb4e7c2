use Rattle.std.proofs.Common.{◌≡◌, ◌<◌, ℕ, length, get_or, []}
use Rattle.image.specs.Raw.{image_of}
use Rattle.loader.specs.Stays.{AreStaysOfProcesses}
use Rattle.loader.proofs.longest_stay.longest_stays.Given as goal

abbrev pub invariant-loop-monitor : goal.invariant-loop-monitor
invariant-loop-monitor l = record {
  one_each : length l.by_monitor ≡ l.monitor;
  each : (m : ℕ) → m < l.monitor → AreStaysOfProcesses (image_of l.image) m (get_or l.by_monitor m []);
}
