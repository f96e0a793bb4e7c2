use Rattle.wellformed_law.proofs.Found.{names-are-found}
use Rattle.wellformed_law.proofs.names_found.names_are_found.Goals as goal

pub returns : goal.returns
returns c = names-are-found c.names_stand_apart.ensures
