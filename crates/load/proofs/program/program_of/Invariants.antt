use Rattle.std.proofs.Common.{◌≡◌, ◌-◌, ◌*◌, ◌++◌}
use Rattle.load.specs.Draws.{state}
use Rattle.load.specs.Program.{program_text}
use Rattle.load.proofs.Pieces.{rest}
use Rattle.load.proofs.program.program_of.Given as goal

abbrev pub invariant-loop-before : goal.invariant-loop-before
invariant-loop-before l = (l.draws.state ≡ state l.key (3 * l.before)) × (l.text ++ rest l.key l.count l.before (l.count - l.before) ≡ program_text l.key l.count)
