use Rattle.source_semantics_law.proofs.Refused.{shorter_frame_first_is_none}
use Rattle.source_semantics_law.proofs.logs.shorter_frame_first_is_none.Goals as goal

pub returns : goal.returns
returns c = shorter_frame_first_is_none
