use Rattle.sched_theorem.proofs.Demands.{covers_one}
use Rattle.sched_theorem.proofs.in_time.bounds_cover_activations.Goals as goal

pub returns : goal.returns
returns c = λ ts level bound j are below solves within. covers_one ts level bound j are below solves within
