use Rattle.std.proofs.Common.{ℕ, List, Err, subst}
use Rattle.compile.specs.Written.{ReadsWritten}
use Rattle.edf_command.proofs.Prepared.{unread_stops}
use Rattle.edf_command.proofs.judging.judge_text.Goals as goal

pub returns-in-Err-clause-fault : goal.returns-in-Err-clause-fault
returns-in-Err-clause-fault g c =
    unread_stops g.bytes c.in-Err.fault (subst (λ (x : List ℕ). ReadsWritten x (Err c.in-Err.fault)) c.requires c.in-Err.ensures)
