use Rattle.edf_correct.proofs.feasible_texts.feasible_texts_keep_their_word.Goals as goal

pub returns : goal.returns
returns c = λ text n points is script lines end written.
    c.edf_images_keep_their_word.ensures text is.tree n points is.written (c.waitless_trees_have_no_wait.ensures is.tree is.waitless) is.image is.answered script lines end written
