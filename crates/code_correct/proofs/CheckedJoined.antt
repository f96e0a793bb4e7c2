-- The laws of a checked program, joined.
use Rattle.syntax_tree.specs.Placed.{plain}
use Rattle.code_correct.specs.Headline.{WellFormedProgramsRun}
use Rattle.built_image_law.specs.Ready.{CheckedProgramsAreReady}
use Rattle.code_correct.specs.Ready.{CheckedProgramsRun}

pub programs_run : CheckedProgramsAreReady → WellFormedProgramsRun → CheckedProgramsRun
programs_run law runs e ps g script fits timed image is lines frames = let r = law g is in runs e ps (plain g) script fits timed image r.formed r.apart lines frames
