use Rattle.edf_correct.proofs.Quiet.{waitless_trees_have_no_wait}
use Rattle.edf_correct.proofs.edf_waits.waitless_trees_have_no_wait.Goals as goal

pub returns : goal.returns
returns c = waitless_trees_have_no_wait
