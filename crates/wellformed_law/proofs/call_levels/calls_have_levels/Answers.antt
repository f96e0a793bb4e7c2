use Rattle.wellformed_law.proofs.Falling.{has_levels}
use Rattle.wellformed_law.proofs.call_levels.calls_have_levels.Goals as goal

pub returns : goal.returns
returns c = λ g apart. has_levels g apart
