use Rattle.std.proofs.Common.{ap}
use Rattle.source_semantics.specs.Names.{processes}
use Rattle.replay_due_events.specs.NextDue.{sooner, lines_due, periodic_due, due_from}
use Rattle.replay_due_events.proofs.Members.{any_order}
use Rattle.replay_due_events.proofs.next_due.waits_stand_in_any_order.Goals as goal

pub returns : goal.returns
returns c = λ g s d. ap (λ w. sooner (lines_due g d (due_from d) s.lines) (sooner (periodic_due g d (due_from d) 0 (processes g)) w)) (any_order g d (due_from d))
