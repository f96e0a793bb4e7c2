use Rattle.std.proofs.Common.{◌≡◌, ◌≤◌, ◌+◌, ◌*◌, drop, map}
use Rattle.std.specs.Prelude.{sum_by}
use Rattle.image.specs.Raw.{monitor_of}
use Rattle.machine_semantics.specs.Image.{Monitor}
use Rattle.loader.proofs.sizes.monitor_words.Given as goal

abbrev pub invariant-loop-monitor : goal.invariant-loop-monitor
invariant-loop-monitor l = record {
  left : l.words + sum_by (λ (x : Monitor). x.words) (map monitor_of (drop l.monitor-index l.monitors)) ≡ sum_by (λ (x : Monitor). x.words) (map monitor_of l.monitors);
  small : l.words ≤ 4294967295 * l.monitor-index;
}
