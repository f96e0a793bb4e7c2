-- What is made of a checked program is its image.
use Rattle.std.proofs.Common.{◌∙◌}
use Rattle.syntax_tree.specs.Placed.{plain}
use Rattle.built_image_law.specs.Ready.{CheckedProgramsAreReady}
use Rattle.built_tasks_law.specs.Ranks.{RanksAreOfTheMeaning, CeilingsAreOfTheMeaning}
use Rattle.built_tasks_law.specs.Images.{CheckedCodeIsAnImage, CheckedImagesAreImages}

pub code_is_an_image : CheckedProgramsAreReady → RanksAreOfTheMeaning → CeilingsAreOfTheMeaning → CheckedCodeIsAnImage
code_is_an_image ready ranks ceilings g m is code has =
    let r = ready g is in
    record {
      code = code;
      ranks = λ k p at. has.ranks k p at ∙ ranks (plain g) m code k;
      ceilings = λ j x at. has.ceilings j x at ∙ ceilings (plain g) m r.formed r.apart code j;
    }

pub images_are_images : CheckedCodeIsAnImage → CheckedImagesAreImages
images_are_images law g m is made = law g m is made.code made.ranks
