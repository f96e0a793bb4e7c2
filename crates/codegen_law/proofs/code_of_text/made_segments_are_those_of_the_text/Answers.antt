use Rattle.codegen_law.proofs.Alone.{made_has_its_segments}
use Rattle.codegen_law.proofs.code_of_text.made_segments_are_those_of_the_text.Goals as goal

pub returns : goal.returns
returns c = made_has_its_segments
