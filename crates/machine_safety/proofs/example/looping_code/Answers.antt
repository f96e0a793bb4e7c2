use Rattle.machine_safety.proofs.Looping.{looping_fits, looping_is_safe}
use Rattle.machine_safety.proofs.example.looping_code.Goals as goal

pub returns-clause-fits : goal.returns-clause-fits
returns-clause-fits c = looping_fits

pub returns-clause-safe : goal.returns-clause-safe
returns-clause-safe c = looping_is_safe
