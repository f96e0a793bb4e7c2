use Rattle.image.specs.Raw.{routine_of}
use Rattle.image_bytes.proofs.PartsLemmas.{routine_is_read}
use Rattle.image_bytes.proofs.routines.routine_is_read.Goals as goal

pub returns : goal.returns
returns c = routine_is_read (routine_of c.args.routine.now) c.owner_fits.ensures c.cost_fits.ensures c.can_be_read.ensures
