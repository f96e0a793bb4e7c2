use Rattle.edf_correct.proofs.EdfLawsJoined.{edf_images_keep_their_word}
use Rattle.edf_correct.proofs.text_to_runs.edf_images_keep_their_word.Goals as goal

pub returns : goal.returns
returns c = edf_images_keep_their_word c.edf_scripts_suit.ensures c.scripts_are_in_order.ensures c.edf_runs_are_right.ensures
