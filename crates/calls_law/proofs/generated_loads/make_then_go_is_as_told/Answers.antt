use Rattle.calls_law.proofs.Loads.{make_then_go}
use Rattle.calls_law.proofs.generated_loads.make_then_go_is_as_told.Goals as goal

pub returns : goal.returns
returns c = make_then_go c.loads_go_as_told.ensures
