use Rattle.load_law.proofs.LoadNamesJoined.{names_kept}
use Rattle.load_law.proofs.load_names_law.load_names.Goals as goal

pub returns : goal.returns
returns c key count few g same number place fails = names_kept key count few g same number place fails
