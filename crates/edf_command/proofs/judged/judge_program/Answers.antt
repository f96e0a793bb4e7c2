use Rattle.std.proofs.Common.{subst, sym}
use Rattle.syntax_tree.specs.Placed.{placed}
use Rattle.image.specs.Raw.{named_of}
use Rattle.image_loaded.specs.Shape.{IsShape}
use Rattle.edf_command.specs.Steps.{IsEdfShape}
use Rattle.edf_command.proofs.Shaped.{shape_is_kept}
use Rattle.edf_command.proofs.judged.judge_program.Goals as goal

pub of-requires-clause-limits : goal.of-requires-clause-limits
of-requires-clause-limits g c =
    (shape_is_kept c.edf_images_are_shapes.ensures g.text (placed c.args.program.now) (named_of c.in_ok-raw.raw) c.requires c.in_ok-raw.ensures.image).limits

pub of-requires-clause-written : goal.of-requires-clause-written
of-requires-clause-written g c =
    (shape_is_kept c.edf_images_are_shapes.ensures g.text (placed c.args.program.now) (named_of c.in_ok-raw.raw) c.requires c.in_ok-raw.ensures.image).written

pub judge_image-requires : goal.judge_image-requires
judge_image-requires g c =
    subst IsShape (sym c.in_ok-image.ensures)
    (shape_is_kept c.edf_images_are_shapes.ensures g.text (placed c.args.program.now) (named_of c.in_ok-raw.raw) c.requires c.in_ok-raw.ensures.image)

pub returns-clause-judged : goal.returns-clause-judged
returns-clause-judged g c =
    let is = shape_is_kept c.edf_images_are_shapes.ensures g.text (placed c.args.program.now) (named_of c.in_ok-raw.raw) c.requires c.in_ok-raw.ensures.image in
    record {
      shape = subst (IsEdfShape (placed c.args.program.now)) (sym c.in_ok-image.ensures) c.in_ok-raw.ensures.image;
      valid = subst IsShape (sym c.in_ok-image.ensures) is;
      answered = c.in_ok-answer.ensures;
    }
