use Rattle.sched_theorem.proofs.Deadlines.{missed_asks_more}
use Rattle.sched_theorem.proofs.in_time.missed_deadlines_ask_more.Goals as goal

pub returns : goal.returns
returns c = λ n cost frame deadline most end due t stay run charged is_due idle_first within late. missed_asks_more n cost frame deadline most end due t stay run charged is_due idle_first within late
