-- A caller for each mark.
use Rattle.std.proofs.Common.{ap, arith, length}
use Rattle.vm_instructions.specs.Frames.{Frames}
use Rattle.vm_instructions.proofs.Rows.{calls_are}
use Rattle.vm_instructions.proofs.frames.Frames.calls.Goals as goal

pub returns : goal.returns
returns c = let n = calls_are c.self.inside in let e = ap (λ (f : Frames). length f.callers) c.self.view_is in omega (arith, n, e)
