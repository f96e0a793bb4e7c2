use Rattle.wellformed_law.proofs.Listed.{names_are_listed, parts_are_listed}
use Rattle.wellformed_law.proofs.scopes_mirrored.declarations_are_listed.Goals as goal

pub returns : goal.returns
returns c = record { names = names_are_listed; parts = parts_are_listed }
