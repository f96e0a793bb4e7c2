use Rattle.std.proofs.Common.{◌∙◌, ap}
use Rattle.image_format.specs.View.{views}
use Rattle.code_names.specs.Texts.{text_of}
use Rattle.compile_image.proofs.Counted.{routine-is}
use Rattle.compile_image.proofs.routines.raw_routine.Goals as goal

pub returns : goal.returns
returns c =
    routine-is (text_of c.args.text) c.args.part.now c.args.row c.kind.result c.owner_index.result c.params.result c.answers.result c.in-Ok.it
    c.kind.ensures c.owner_index.ensures c.params.ensures c.answers.ensures (c.in-Ok.ensures ∙ ap (λ segs. views segs) c.as_slice.ensures)
