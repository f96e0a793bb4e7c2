use Rattle.calls_law.proofs.Loads.{loads_go}
use Rattle.calls_law.proofs.generated_loads.loads_go_as_told.Goals as goal

pub returns : goal.returns
returns c = loads_go c.go_is_one.ensures
