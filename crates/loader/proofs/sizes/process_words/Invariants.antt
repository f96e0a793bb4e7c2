use Rattle.std.proofs.Common.{◌≡◌, ◌≤◌, ◌+◌, ◌*◌, drop, map}
use Rattle.std.specs.Prelude.{sum_by}
use Rattle.image.specs.Raw.{process_of}
use Rattle.machine_semantics.specs.Image.{Process}
use Rattle.loader.proofs.sizes.process_words.Given as goal

abbrev pub invariant-loop-process : goal.invariant-loop-process
invariant-loop-process l = record {
  left : l.words + sum_by (λ (x : Process). x.words) (map process_of (drop l.process-index l.processes)) ≡ sum_by (λ (x : Process). x.words) (map process_of l.processes);
  small : l.words ≤ 4294967295 * l.process-index;
}
