use Rattle.std.proofs.Common.{◌≡◌, [], fold, length}
use Rattle.asm_lines.specs.declared.form.Awaits.TheVariants.{Tree}
use Rattle.asm_lines.specs.Shapes.{shape_of}
use Rattle.asm_lines.specs.TreeForm.{cuts, step}
use Rattle.asm_lines.proofs.form.is_tree.Given as goal

abbrev pub invariant-loop-cut : goal.invariant-loop-cut
invariant-loop-cut l = fold step (shape_of l.form) (cuts 32 l.rest) ≡ fold step (record { awaits = Tree; arms = [] }) (cuts 32 l.line)

abbrev pub decreases-loop-cut : goal.decreases-loop-cut
decreases-loop-cut l = length l.rest
