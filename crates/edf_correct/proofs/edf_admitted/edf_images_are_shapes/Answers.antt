use Rattle.edf_correct.proofs.Admitted.{edf_images_are_shapes}
use Rattle.edf_correct.proofs.edf_admitted.edf_images_are_shapes.Goals as goal

pub returns : goal.returns
returns c =
    edf_images_are_shapes c.checked_programs_are_ready.ensures c.generated_code_is_code.ensures c.words_are_few.ensures c.checked_operands_are_in_range.ensures
    c.programs_that_keep_sizes_are_small.ensures c.code_has_its_length.ensures c.shaped_images_are_in_limits.ensures c.names_of_texts_are_short.ensures
