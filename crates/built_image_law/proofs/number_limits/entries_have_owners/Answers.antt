use Rattle.built_image_law.proofs.Owners.{entries_have_owners}
use Rattle.built_image_law.proofs.number_limits.entries_have_owners.Goals as goal

pub returns : goal.returns
returns c = entries_have_owners
