use Rattle.edf_correct.proofs.EdfLawsJoined.{edf_runs_are_right}
use Rattle.edf_correct.proofs.text_to_runs.edf_runs_are_right.Goals as goal

pub returns : goal.returns
returns c =
    edf_runs_are_right c.checked_programs_are_ready.ensures c.generated_code_is_code.ensures c.checked_code_is_an_image.ensures c.well_formed_code_is_right.ensures
    c.edf_images_are_shapes.ensures c.edf_images_are_admitted.ensures c.every_admitted_shape_meets_deadlines.ensures c.compiled_runs_are_runs.ensures
