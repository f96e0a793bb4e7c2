-- The bounds of the example.
use Rattle.std.proofs.Common.{◌≡◌, ◌≤◌, ◌*◌, ◌∙◌, ℕ, [], arith}
use Rattle.std.specs.Prelude.{take}
use Rattle.std.specs.Int.{div_ceil}
use Rattle.std.proofs.lemmas.Grind.{div_ceil_times}
use Rattle.std.proofs.lemmas.List.Sums.{sum_by-cons}
use Rattle.sched_response.specs.declared.tasks.Task.{Task}
use Rattle.sched_response.specs.Demand.{task_at, activation, asked, demand_at, IsBound}
use Rattle.sched_program.specs.Example.{example_tasks, ExampleHasItsTasks, ExampleIsBounded}

first_bound : IsBound (example_tasks 0) 0 89
unfolding demand_at
first_bound = record {
  solves = record { above = omega arith; within = omega arith; met = omega arith };
  least = λ r s. (let met : demand_at (example_tasks 0) 0 r ≤ r = s.met in omega (arith, met));
}

-- the first is activated once at least
once : (r : ℕ) → 1 ≤ r → 73 ≤ asked 0 r (take 1 (example_tasks 0))
once r some =
    let enough = div_ceil_times r 200 (omega arith) in
    let is : asked 0 r (take 1 (example_tasks 0)) ≡ div_ceil r 200 * 73 = sum_by-cons (λ (t : Task). div_ceil r t.frame * activation 0 t) (task_at (example_tasks 0) 0) [] ∙ omega arith in
    omega (arith, is, enough.0, some)

second_bound : IsBound (example_tasks 0) 1 100
unfolding demand_at
second_bound = record {
  solves = record { above = omega arith; within = omega arith; met = omega arith };
  least = λ r s. (let met : demand_at (example_tasks 0) 1 r ≤ r = s.met in omega (arith, met, once r s.above, s.within));
}

pub example_is_bounded : ExampleHasItsTasks → ExampleIsBounded
example_is_bounded are = record {
  first = record { tasks = example_tasks 0; are = are 0; least = first_bound };
  second = record { tasks = example_tasks 0; are = are 0; least = second_bound };
}
