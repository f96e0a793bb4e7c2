use Rattle.load_law.proofs.LoadStacksJoined.{none_large}
use Rattle.load_law.proofs.load_stacks_law.load_stacks.Goals as goal

pub returns : goal.returns
returns c key count few g same place large = none_large key count g (c.load_size.ensures.same key count g same) place large
