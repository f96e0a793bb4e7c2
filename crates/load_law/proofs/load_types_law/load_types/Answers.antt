use Rattle.load_law.proofs.Types.{types_kept}
use Rattle.load_law.proofs.load_types_law.load_types.Goals as goal

pub returns : goal.returns
returns c key count few g read named same number place three =
    types_kept key count g (c.names_are_found.ensures g read named) (c.things_are_known.ensures g (c.names_stand_apart.ensures g read)) same number place three
