use Rattle.std.proofs.Common.{◌∙◌, ap, map}
use Rattle.syntax_tree.specs.Placed.{placed}
use Rattle.image.specs.Raw.{process_of}
use Rattle.edf_command.specs.Steps.{due_of}
use Rattle.edf_command.proofs.Shaped.{is_shape}
use Rattle.edf_command.proofs.shaping.with_deadlines.Goals as goal

pub returns-clause-image : goal.returns-clause-image
returns-clause-image g c =
    is_shape c.shapes_leave_bounds_aside.ensures (placed c.args.program.now) c.in_ok-image.image c.with_bounds.result c.in_ok-bounds.bounds c.in_ok-image.ensures.image
    (c.in_ok-bounds.ensures ∙ ap (λ ps. map due_of (map process_of ps)) c.as_slice.ensures) c.with_bounds.ensures.same c.with_bounds.ensures.bounds
