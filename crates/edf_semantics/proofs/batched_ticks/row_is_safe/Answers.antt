use Rattle.edf_semantics.proofs.Rowing.{row_is_safe}
use Rattle.edf_semantics.proofs.batched_ticks.row_is_safe.Goals as goal

pub returns : goal.returns
returns c = row_is_safe
