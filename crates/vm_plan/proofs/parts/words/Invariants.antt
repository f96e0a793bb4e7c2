use Rattle.std.proofs.Common.{◌≡◌, ◌≤◌, ◌*◌, take}
use Rattle.machine_semantics.specs.Run.{words_of}
use Rattle.vm_plan.proofs.parts.words.Given as goal

abbrev pub invariant-loop-number : goal.invariant-loop-number
invariant-loop-number l = record {
  words : l.words ≡ words_of (take l.number l.image.image.monitors);
  few : l.words ≤ 4294967295 * l.number;
}
