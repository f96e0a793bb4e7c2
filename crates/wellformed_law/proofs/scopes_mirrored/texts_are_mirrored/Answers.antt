use Rattle.wellformed_law.proofs.Mirrored.{texts_mirrored}
use Rattle.wellformed_law.proofs.scopes_mirrored.texts_are_mirrored.Goals as goal

pub returns : goal.returns
returns c = texts_mirrored
