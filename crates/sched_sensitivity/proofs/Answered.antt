-- What an answer of the search for a failing level says of the set.
use Rattle.std.proofs.Common.{◌≡◌, ℕ, List, Option, Some, None, IfSome, IfNone, true, false}
use Rattle.std.specs.Prelude.{is_some}
use Rattle.sched_response.specs.declared.tasks.Task.{Task}
use Rattle.sched_response.specs.Demand.{Solves}
use Rattle.sched_sensitivity.specs.Slack.{IsFirstFailing, IsTimely, Responds}
use Rattle.sched_sensitivity.proofs.More.{not_timely}

pub timely_by : (ts : List Task) (found : Option ℕ) → false ≡ is_some found → IfNone found (IsTimely ts) → IsTimely ts
timely_by ts None none timely = timely
timely_by ts (Some level) none timely = absurd (cc)

pub not_timely_by : (ts : List Task) (found : Option ℕ) → true ≡ is_some found → IfSome found (IsFirstFailing ts) → IsTimely ts → ⊥
not_timely_by ts None some failing = λ timely. cc
not_timely_by ts (Some level) some failing = not_timely ts level failing

pub not_responding : (ts : List Task) (level : ℕ) (found : Option ℕ) → IfNone found ((r : ℕ) → ¬ Solves ts level r) → IfNone found (¬ Responds ts level)
not_responding ts level None none = λ solved. none solved.0 solved.1
not_responding ts level (Some bound) none = tt
