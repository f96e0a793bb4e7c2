use Rattle.std.proofs.Common.{◌≡◌, ◌+◌, take, vec_len, map}
use Rattle.vm_instructions.specs.Inside.{part}
use Rattle.vm_instructions.specs.Frames.{value}
use Rattle.vm_instructions.proofs.frames.copy.Given as goal

abbrev pub invariant-loop-k : goal.invariant-loop-k
invariant-loop-k l = record {
  copied : part l.to (l.to + l.k) l.locals.items ≡ map value (part l.from (l.from + l.k) l.operands);
  before : take l.to l.locals.items ≡ take l.to l.fn.locals.items;
  len : vec_len l.locals ≡ vec_len l.fn.locals;
}
