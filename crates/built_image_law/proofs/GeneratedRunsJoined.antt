-- The laws joined.
use Rattle.syntax_tree.specs.Placed.{plain}
use Rattle.built_image_law.specs.Ready.{CheckedProgramsAreReady}
use Rattle.built_image_law.specs.Generated.{GeneratedIsCode}
use Rattle.built_image_law.specs.Runs.{CheckedCodeIsCode}

pub made_is_code : CheckedProgramsAreReady → GeneratedIsCode → CheckedCodeIsCode
made_is_code ready code g m small holds =
    let r = ready g small.checked in
    code (plain g) m (record { form = r.formed; names = r.apart; frames = small.frames; code = small.code }) holds
