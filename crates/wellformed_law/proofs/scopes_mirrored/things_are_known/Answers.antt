use Rattle.wellformed_law.proofs.Things.{things_known}
use Rattle.wellformed_law.proofs.scopes_mirrored.things_are_known.Goals as goal

pub returns : goal.returns
returns c = things_known
