-- What is built is made.
use Rattle.syntax_tree.specs.Placed.{plain}
use Rattle.code_spec.specs.Compiled.{IsCodeOf}
use Rattle.built_image_law.specs.Ready.{CheckedProgramsAreReady}
use Rattle.built_image_law.specs.Runs.{CheckedCodeIsCode}
use Rattle.built_valid_law.specs.Made.{BuiltImagesAreMade, LeastBoundsAreBounds, WordsAreFew}

pub built_images_are_made : CheckedProgramsAreReady → CheckedCodeIsCode → LeastBoundsAreBounds → WordsAreFew → BuiltImagesAreMade
built_images_are_made ready code_law bounds words g over n small built =
    let r = ready g small.checked in
    let code : IsCodeOf (plain g) n.image = code_law g n.image small built.shaped.code in
    record {
      code = code;
      declares = built.shaped.declares;
      few_words = words (plain g) n.image r.formed code;
      ranks = built.shaped.ranks;
      bounds = bounds n.image built.shaped.ranks built.bounds;
    }
