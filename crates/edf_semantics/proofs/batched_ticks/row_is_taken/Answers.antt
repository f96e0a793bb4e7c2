use Rattle.edf_semantics.proofs.Rowing.{row_is_taken}
use Rattle.edf_semantics.proofs.batched_ticks.row_is_taken.Goals as goal

pub returns : goal.returns
returns c = row_is_taken
