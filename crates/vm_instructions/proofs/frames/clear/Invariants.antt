use Rattle.std.proofs.Common.{◌≡◌, ◌-◌, take, vec_len}
use Rattle.machine_semantics.specs.State.{zeros}
use Rattle.vm_instructions.specs.Inside.{part}
use Rattle.vm_instructions.proofs.frames.clear.Given as goal

abbrev pub invariant-loop-k : goal.invariant-loop-k
invariant-loop-k l = record {
  cleared : part l.from l.k l.words.items ≡ zeros (l.k - l.from);
  before : take l.from l.words.items ≡ take l.from l.fn.words.items;
  len : vec_len l.words ≡ vec_len l.fn.words;
}
