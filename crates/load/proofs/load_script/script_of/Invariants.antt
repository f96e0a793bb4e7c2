use Rattle.std.proofs.Common.{◌≡◌, ◌-◌, ◌++◌}
use Rattle.load.specs.Draws.{state}
use Rattle.load.specs.Script.{script_text}
use Rattle.load.proofs.Lines.{rest}
use Rattle.load.proofs.load_script.script_of.Given as goal

abbrev pub invariant-loop-before : goal.invariant-loop-before
invariant-loop-before l = (l.draws.state ≡ state l.key l.before) × (l.text ++ rest l.key l.count l.before (20 - l.before) ≡ script_text l.key l.count)
