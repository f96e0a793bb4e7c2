use Rattle.wellformed_law.proofs.Levelled.{named_levels}
use Rattle.wellformed_law.proofs.call_levels.routines_have_levels.Goals as goal

pub returns : goal.returns
returns c = λ g found listed has p own mirrored. named_levels g found listed has p own mirrored
