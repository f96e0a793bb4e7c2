-- A solution of the recurrence, as the capped demand of a task set has it, covers what the ranks up to a level ask for.
use Rattle.std.proofs.Common.{◌≡◌, ℕ, zero, suc, ◌+◌, ◌*◌, ◌<◌, ◌≤◌, inl, inr, List, length, take, refl, arith, ap, ◌∙◌}
use Rattle.std.specs.Int.{div_ceil}
use Rattle.std.proofs.lemmas.Bool.{cases_lt}
use Rattle.std.proofs.lemmas.Grind.{div_ceil_times}
use Rattle.std.proofs.lemmas.List.Sums.{sum_by_more}
use Rattle.std.proofs.Math.Nat.{mul-le-mul_right}
use Rattle.sched_response.specs.declared.tasks.Task.{Task}
use Rattle.sched_response.specs.Demand.{activation, asked, demand_at, IsTask, Solves, task_at}
use Rattle.sched_theorem.specs.Limited.{AreLimited}
use Rattle.sched_theorem.specs.Charges.{total, claim, claims}
use Rattle.sched_theorem.specs.Ranked.{cost_at}
use Rattle.sched_theorem.proofs.Totals.{total_term}

-- a sum over the first tasks, by rank
asked_total : (ts : List Task) (b r level : ℕ) → level ≤ length ts → asked b r (take level ts) ≡ total level (λ j. div_ceil r (task_at ts j).frame * claim b (cost_at ts j))
asked_total ts b r zero within = refl
asked_total ts b r (suc level) within =
    let rest = asked_total ts b r level (omega arith) in
    let more = sum_by_more (λ t. div_ceil r t.frame * activation b t) ts level (record { frame = 0; deadline = 0; run = 0; susp = 0; waits = 0; block = 0 }) (omega arith) in
    let e : suc level ≡ level + 1 = omega arith in
    ap (λ k. asked b r (take k ts)) e ∙ more ∙ ap (λ k. k + div_ceil r (task_at ts level).frame * claim b (cost_at ts level)) rest

-- within a frame there is one release
pub one_frame : (r frame : ℕ) → 1 ≤ r → r ≤ frame → div_ceil r frame ≡ 1
one_frame r frame low high =
    let times = div_ceil_times r frame (omega arith) in
    small (div_ceil r frame) r frame low high times.0 times.1
  where
    small : (d r frame : ℕ) → 1 ≤ r → r ≤ frame → r ≤ d * frame → d * frame < r + frame → d ≡ 1
    small zero r frame low high le lt = absurd (omega arith)
    small (suc zero) r frame low high le lt = refl
    small (suc (suc d)) r frame low high le lt =
        let split : suc (suc d) * frame ≡ frame + frame + d * frame = grind arith in
        absurd (omega arith)

pub task_is : (ts : List Task) (level : ℕ) → AreLimited ts → level < length ts → IsTask (task_at ts level)
task_is ts level are below = are level (record { frame = 0; deadline = 0; run = 0; susp = 0; waits = 0; block = 0 }) below

-- a solution covers its level and those above it
pub solution_covers : (ts : List Task) (level r : ℕ) → AreLimited ts → level < length ts → Solves ts level r → (task_at ts level).block + claims (suc level) (λ j. div_ceil r (task_at ts j).frame) (cost_at ts) (task_at ts level).block ≤ r
unfolding demand_at
solution_covers ts level r are below solves =
    let own = task_is ts level are below in
    let one = one_frame r (task_at ts level).frame solves.above (omega (arith, solves.within, own.deadline_high)) in
    let before = asked_total ts (task_at ts level).block r level (omega arith) in
    let last : div_ceil r (task_at ts level).frame * claim (task_at ts level).block (cost_at ts level) ≡ claim (task_at ts level).block (cost_at ts level) = ap (λ k. k * claim (task_at ts level).block (cost_at ts level)) one ∙ omega arith in
    omega (arith, solves.met, own.frame_high, own.deadline_high, solves.within)

-- and so does a solution cover one activation of each
pub covers_one : (ts : List Task) (level r j : ℕ) → AreLimited ts → level < length ts → Solves ts level r → j ≤ level → claim (task_at ts level).block (cost_at ts j) ≤ r
covers_one ts level r j are below solves within =
    let all = solution_covers ts level r are below solves in
    let term = total_term (suc level) j (λ i. div_ceil r (task_at ts i).frame * claim (task_at ts level).block (cost_at ts i)) (omega arith) in
    let is = task_is ts j are (omega arith) in
    let some = starts_once r (task_at ts j).frame solves.above (omega (arith, is.frame_low)) in
    let one : 1 * claim (task_at ts level).block (cost_at ts j) ≤ div_ceil r (task_at ts j).frame * claim (task_at ts level).block (cost_at ts j) = mul-le-mul_right (claim (task_at ts level).block (cost_at ts j)) some in
    omega arith
  where
    starts_once : (r frame : ℕ) → 1 ≤ r → 0 < frame → 1 ≤ div_ceil r frame
    starts_once r frame low pos = elim (cases_lt 0 (div_ceil r frame)) [
      | inl some ↦ some
      | inr none ↦
          let times = div_ceil_times r frame pos in
          let e : div_ceil r frame ≡ 0 = omega arith in
          let f : div_ceil r frame * frame ≡ 0 = ap (λ d. d * frame) e ∙ omega arith in
          absurd (omega (arith, times.0))
    ]
