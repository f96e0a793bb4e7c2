use Rattle.std.proofs.Common.{[], fold, ap, ◌∙◌}
use Rattle.asm_lines.specs.declared.form.Awaits.TheVariants.{Tree}
use Rattle.asm_lines.specs.Shapes.{shape_of}
use Rattle.asm_lines.specs.TreeForm.{Shape, cuts, is_whole, step, tree_form}
use Rattle.asm_lines.proofs.Cutting.{ends, goes_on}
use Rattle.asm_lines.proofs.form.is_tree.Goals as goal

pub loop-cut-preserved : goal.loop-cut-preserved
loop-cut-preserved c =
    let start : Shape = record { awaits = Tree; arms = [] } in
    goes_on (shape_of c.loop-cut.form) (shape_of c.step.new.self) (fold step start (cuts 32 c.args.line.now)) c.loop-cut.rest.now c.in-Some.cut.before.now c.in-Some.cut.after.now
    c.in-Some.ensures.found c.in_ok-step.ensures c.loop-cut.invariant

pub returns : goal.returns
unfolding tree_form
returns c =
    let start : Shape = record { awaits = Tree; arms = [] } in
    c.is_whole.ensures ∙ ap is_whole (ends (shape_of c.loop-cut.form) (shape_of c.step-2.new.self) (fold step start (cuts 32 c.args.line.now)) c.loop-cut.rest.now
    c.in_default.ensures.none c.in_ok-step-2.ensures c.loop-cut.invariant)
