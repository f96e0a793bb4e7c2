-- What the parts add up to.
use Rattle.std.proofs.Common.{◌≡◌, ◌≤◌, ◌<◌, ◌+◌, ◌*◌, inl, inr, ℕ, zero, suc, List, length, take, ap, ◌∙◌, arith, refl}
use Rattle.std.specs.Int.{div_ceil}
use Rattle.std.proofs.lemmas.Bool.{cases_lt}
use Rattle.std.proofs.lemmas.List.Sums.{sum_by_more}
use Rattle.std.proofs.lemmas.List.Elements.{All-get_or}
use Rattle.sched_response.specs.declared.tasks.Task.{Task}
use Rattle.sched_response.specs.Demand.{activation, asked, deadline_at, demand_at, exact_demand_at, task_at, AreTasks, IsTask, IsBound, Solves}
use Rattle.sched_response.proofs.Rising.{demand_mono}
use Rattle.sched_sections.specs.Parts.{all_of_first, sum, sum_of_parts}

abbrev nobody : Task
nobody = record { frame = 0; deadline = 0; run = 0; susp = 0; waits = 0; block = 0 }

-- the first levels together
of_first : (ts : List Task) (level r n : ℕ) → n ≤ length ts → all_of_first ts level r n ≡ asked (task_at ts level).block r (take n ts)
of_first ts level r zero low = refl
of_first ts level r (suc n) low =
    let rest = of_first ts level r n (omega (arith, low)) in
    let e : suc n ≡ n + 1 = omega arith in
    let b = (task_at ts level).block in
    let more : asked b r (take (suc n) ts) ≡ asked b r (take n ts) + div_ceil r (task_at ts n).frame * activation b (task_at ts n) =
    ap (λ k. asked b r (take k ts)) e ∙ sum_by_more (λ t. div_ceil r t.frame * activation b t) ts n nobody (omega (arith, low)) in
    omega (arith, rest, more)

pub exact : (ts : List Task) (level r : ℕ) → level < length ts → sum_of_parts ts level r ≡ exact_demand_at ts level r
unfolding exact_demand_at
exact ts level r below = let all = of_first ts level r level (omega (arith, below)) in omega (arith, all)

pub capped : (ts : List Task) (level r : ℕ) → level < length ts → sum ts level r ≡ demand_at ts level r
unfolding demand_at
capped ts level r below = let all = of_first ts level r level (omega (arith, below)) in omega (arith, all)

pub counted : (ts : List Task) (level r : ℕ) → level < length ts → demand_at ts level r ≤ 1000000000 → sum_of_parts ts level r ≡ demand_at ts level r
counted ts level r below low = let e = capped ts level r below in omega (arith, e, low)

-- the demand is at least the run, where this is counted
some_demand : (ts : List Task) (level r : ℕ) → 1 ≤ (task_at ts level).run → 1 ≤ demand_at ts level r
unfolding demand_at
some_demand ts level r some = omega (arith, some)

pub at_bound : (ts : List Task) (level bound : ℕ) → AreTasks ts → level < length ts → 1 ≤ (task_at ts level).run → IsBound ts level bound → sum ts level bound ≡ bound
at_bound ts level bound are below some least =
    let e = capped ts level bound below in
    elim (cases_lt (demand_at ts level bound) bound) [
      | inl lt ↦
          let d = demand_at ts level bound in
          let up = demand_mono ts level d bound are (omega (arith, lt)) in
          let low = least.least d (record { above = some_demand ts level bound some; within = omega (arith, lt, least.solves.within); met = up }) in
          absurd (omega (arith, lt, low))
      | inr ge ↦ omega (arith, e, ge, least.solves.met)
    ]

pub past : (ts : List Task) (level : ℕ) → AreTasks ts → level < length ts → ((r : ℕ) → ¬ Solves ts level r) → deadline_at ts level < sum ts level (deadline_at ts level)
past ts level are below none =
    let d = deadline_at ts level in
    let e = capped ts level d below in
    let task : IsTask (task_at ts level) = All-get_or IsTask ts level nobody below are.each in
    elim (cases_lt d (demand_at ts level d)) [
      | inl lt ↦ omega (arith, e, lt)
      | inr ge ↦ absurd (none d (record { above = omega (arith, task.deadline_low); within = omega arith; met = ge }))
    ]
