-- Tasks that are in time load the processor no more than wholly.
use Rattle.std.proofs.Common.{◌≡◌, ◌≤◌, ◌<◌, ◌+◌, ◌*◌, inl, inr, ℕ, zero, suc, List, length, take, ap, ◌∙◌, arith, refl, sym}
use Rattle.std.specs.Prelude.{sum_by}
use Rattle.std.specs.Int.{div_ceil}
use Rattle.std.proofs.lemmas.Bool.{cases_lt}
use Rattle.std.proofs.lemmas.Bool.Decides.{nat_tests}
use Rattle.std.proofs.lemmas.Grind.{div_ceil_times}
use Rattle.std.proofs.lemmas.List.{take_all}
use Rattle.std.proofs.lemmas.List.Sums.{sum_by_more}
use Rattle.std.proofs.lemmas.List.Elements.{All-get_or}
use Rattle.std.proofs.Math.Nat.{mul-le-mul_left, mul-le-mul_right}
use Rattle.sched_response.specs.declared.tasks.Task.{Task}
use Rattle.sched_response.specs.Demand.{activation, asked, demand_at, task_at, AreTasks, IsTask, Solves}
use Rattle.sched_sections.specs.Load.{load, share}

abbrev nobody : Task
nobody = record { frame = 0; deadline = 0; run = 0; susp = 0; waits = 0; block = 0 }

-- a share over r ticks is less than what runs in d releases, and r ticks more
share_runs : (s cost frame d r : ℕ) → 1 ≤ r → 1 ≤ d → r ≤ d * frame → s * frame < 1000000 * cost + frame → s * r < 1000000 * (d * cost) + r
share_runs zero cost frame d r some starts reached less = omega (arith, some)
share_runs (suc f) cost frame d r some starts reached less =
    let one : suc f * frame ≡ f * frame + frame = grind arith in
    let low : f * frame + 1 ≤ 1000000 * cost = omega (arith, less, one) in
    let times : d * (f * frame + 1) ≤ d * (1000000 * cost) = mul-le-mul_left d low in
    let long : f * r ≤ f * (d * frame) = mul-le-mul_left f reached in
    let left : d * (f * frame + 1) ≡ f * (d * frame) + d = grind arith in
    let right : d * (1000000 * cost) ≡ 1000000 * (d * cost) = grind arith in
    let split : suc f * r ≡ f * r + r = grind arith in
    omega (arith, times, long, left, right, split, starts)

-- a cost that is counted has its share
share_counted : (t : Task) → 0 < t.frame → t.run ≤ 1000000000 → share t * t.frame < 1000000 * t.run + t.frame
share_counted t pos low =
    let e : share t ≡ div_ceil (1000000 * t.run) t.frame = grind (arith, nat_tests, low) in
    let d = div_ceil_times (1000000 * t.run) t.frame pos in
    let same : share t * t.frame ≡ div_ceil (1000000 * t.run) t.frame * t.frame = ap (λ n. n * t.frame) e in
    omega (arith, same, d.1)

-- what starts in some ticks starts once at least
starts_once : (r frame : ℕ) → 0 < frame → 1 ≤ r → 1 ≤ div_ceil r frame
starts_once r frame pos some = elim (cases_lt (div_ceil r frame) 1) [
  | inl lt ↦
      let none : div_ceil r frame ≡ 0 = omega (arith, lt) in
      let d = div_ceil_times r frame pos in
      let zero_times : div_ceil r frame * frame ≡ 0 = ap (λ n. n * frame) none ∙ (grind arith) in
      absurd (omega (arith, d.0, zero_times, some))
  | inr ge ↦ ge
]

-- the solution of a level is at least its run
run_within : (ts : List Task) (level r : ℕ) → AreTasks ts → level < length ts → Solves ts level r → (task_at ts level).run ≤ 1000000000
unfolding demand_at
run_within ts level r are below solves =
    let task : IsTask (task_at ts level) = All-get_or IsTask ts level nobody below are.each in
    omega (arith, solves.met, solves.within, task.deadline_high, task.frame_high)

-- the first levels
of_first : (ts : List Task) (b r n : ℕ) → AreTasks ts → ((level : ℕ) → level < length ts → (task_at ts level).run ≤ 1000000000) → 1 ≤ r → n ≤ length ts
    → sum_by (λ t. share t) (take n ts) * r ≤ 1000000 * asked b r (take n ts) + n * r
of_first ts b r zero are low some within = let e : sum_by (λ t. share t) (take 0 ts) * r ≡ 0 = grind arith in omega (arith, e)
of_first ts b r (suc n) are low some within =
    let below : n < length ts = omega (arith, within) in
    let rest = of_first ts b r n are low some (omega (arith, within)) in
    let t = task_at ts n in
    let task : IsTask t = All-get_or IsTask ts n nobody below are.each in
    let pos : 0 < t.frame = omega (arith, task.frame_low) in
    let d = div_ceil r t.frame in
    let reached = div_ceil_times r t.frame pos in
    let own = share_runs (share t) t.run t.frame d r some (starts_once r t.frame pos some) reached.0 (share_counted t pos (low n below)) in
    let run : d * t.run ≤ d * activation b t = mul-le-mul_left d (let h : t.run ≤ activation b t = omega arith in h) in
    let e : suc n ≡ n + 1 = omega arith in
    let shares : sum_by (λ t. share t) (take (suc n) ts) ≡ sum_by (λ t. share t) (take n ts) + share t =
    ap (λ k. sum_by (λ t. share t) (take k ts)) e ∙ sum_by_more (λ t. share t) ts n nobody below in
    let asks : asked b r (take (suc n) ts) ≡ asked b r (take n ts) + d * activation b t =
    ap (λ k. asked b r (take k ts)) e ∙ sum_by_more (λ t. div_ceil r t.frame * activation b t) ts n nobody below in
    let left : sum_by (λ t. share t) (take (suc n) ts) * r ≡ sum_by (λ t. share t) (take n ts) * r + share t * r =
    ap (λ k. k * r) shares ∙ grind arith in
    let right : suc n * r ≡ n * r + r = grind arith in
    omega (arith, rest, own, run, asks, left, right)

-- the last level asks for all of them within its response
at_last : (ts : List Task) (n r : ℕ) → AreTasks ts → ((level : ℕ) → level < length ts → (task_at ts level).run ≤ 1000000000) → length ts ≡ suc n → Solves ts n r → load ts < 1000000 + length ts
unfolding demand_at
at_last ts n r are low many solves =
    let below : n < length ts = omega (arith, many) in
    let t = task_at ts n in
    let task : IsTask t = All-get_or IsTask ts n nobody below are.each in
    let pos : 0 < t.frame = omega (arith, task.frame_low) in
    let before = of_first ts t.block r n are low solves.above (omega (arith, many)) in
    let own : share t * r < 1000000 * (1 * t.run) + r =
    share_runs (share t) t.run t.frame 1 r solves.above (omega arith) (omega (arith, solves.within, task.deadline_high)) (share_counted t pos (low n below)) in
    let met : t.run + asked t.block r (take n ts) ≤ r = omega (arith, solves.met, solves.within, task.deadline_high, task.frame_high) in
    let all : sum_by (λ t. share t) (take (n + 1) ts) ≡ sum_by (λ t. share t) (take n ts) + share t = sum_by_more (λ t. share t) ts n nobody below in
    let whole : load ts ≡ sum_by (λ t. share t) (take (n + 1) ts) =
    ap (λ (us : List Task). sum_by (λ t. share t) us) (sym (ap (λ k. take k ts) (let h : n + 1 ≡ length ts = omega (arith, many) in h) ∙ take_all (length ts) ts (omega arith))) in
    let left : load ts * r ≡ sum_by (λ t. share t) (take n ts) * r + share t * r = ap (λ k. k * r) (whole ∙ all) ∙ grind arith in
    let right : (1000000 + suc n) * r ≡ 1000000 * r + (n * r + r) = grind arith in
    elim (cases_lt (load ts) (1000000 + length ts)) [
      | inl lt ↦ lt
      | inr ge ↦
          let more : (1000000 + suc n) * r ≤ load ts * r = mul-le-mul_right r (let h : 1000000 + suc n ≤ load ts = omega (arith, ge, many) in h) in
          absurd (omega (arith, before, own, met, left, right, more))
    ]

pub no_more_than_all : (ts : List Task) → AreTasks ts → ((level : ℕ) → level < length ts → (r : ℕ) × Solves ts level r) → load ts < 1000000 + length ts
no_more_than_all ts are timely = by (length ts) refl where
  low : (level : ℕ) → level < length ts → (task_at ts level).run ≤ 1000000000
  low level below = let solved = timely level below in run_within ts level solved.0 are below solved.1

  by : (n : ℕ) → length ts ≡ n → load ts < 1000000 + length ts
  by zero none = absurd (omega (arith, none, are.some))
  by (suc n) many = let solved = timely n (omega (arith, many)) in at_last ts n solved.0 are low many solved.1
