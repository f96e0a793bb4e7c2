use Rattle.code_measures.proofs.Meeting.{meeting_is_made}
use Rattle.code_measures.proofs.declared_images_valid.an_example_is_made.Goals as goal

pub returns : goal.returns
returns c = meeting_is_made
