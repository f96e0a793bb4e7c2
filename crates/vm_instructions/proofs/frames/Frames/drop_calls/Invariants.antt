use Rattle.std.proofs.Common.{◌≡◌, length}
use Rattle.machine_semantics.specs.State.{own_locals}
use Rattle.vm_instructions.proofs.frames.Frames.drop_calls.Given as goal

abbrev pub invariant-loop-self : goal.invariant-loop-self
invariant-loop-self l = record {
  own : own_locals l.self.locals l.self.callers ≡ own_locals l.fn.self.locals l.fn.self.callers;
  room : l.self.room ≡ l.fn.self.room;
}

abbrev pub decreases-loop-self : goal.decreases-loop-self
decreases-loop-self l = length l.self.callers
