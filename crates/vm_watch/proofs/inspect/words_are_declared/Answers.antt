use Rattle.vm_watch.proofs.Declaring.{words_are_declared}
use Rattle.vm_watch.proofs.inspect.words_are_declared.Goals as goal

pub returns : goal.returns
returns c = words_are_declared
