use Rattle.built_valid_law.proofs.Tables.{devices_stand}
use Rattle.built_valid_law.proofs.variable_areas.devices_stand.Goals as goal

pub returns : goal.returns
returns c = devices_stand
