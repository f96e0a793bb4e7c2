-- Tasks that ask for less have the solutions of the others.
use Rattle.std.proofs.Common.{◌≡◌, ◌≤◌, ◌<◌, ◌+◌, ◌*◌, ℕ, zero, suc, List, length, take, ap, ◌∙◌, arith, refl}
use Rattle.std.specs.Int.{div_ceil}
use Rattle.std.proofs.lemmas.List.Sums.{sum_by_more}
use Rattle.std.proofs.Math.Nat.{mul-le-mul_left}
use Rattle.sched_response.specs.declared.tasks.Task.{Task}
use Rattle.sched_response.specs.Demand.{activation, asked, starts_in, demand_at, task_at, deadline_at, Solves}
use Rattle.sched_sensitivity.specs.Slack.{evaluations, IsTimely}

abbrev pub nobody : Task
nobody = record { frame = 0; deadline = 0; run = 0; susp = 0; waits = 0; block = 0 }

-- the same task but that it does not ask for more, run and suspension together
pub record AsksLess (s t : Task) : Type 0 where
  pub frame : s.frame ≡ t.frame
  pub deadline : s.deadline ≡ t.deadline
  pub ticks : s.run + s.susp ≤ t.run + t.susp
  pub waits : s.waits ≡ t.waits
  pub block : s.block ≡ t.block

-- so do the first n tasks of one list
pub record AskLess (n : ℕ) (ss ts : List Task) : Type 0 where
  pub fit : n ≤ length ss
  pub fit_too : n ≤ length ts
  pub each : (k : ℕ) → k < n → AsksLess (task_at ss k) (task_at ts k)

pub fewer : (n m : ℕ) (ss ts : List Task) → m ≤ n → AskLess n ss ts → AskLess m ss ts
fewer n m ss ts low less = record {
  fit = omega (arith, less.fit);
  fit_too = omega (arith, less.fit_too);
  each = λ k below. less.each k (omega arith);
}

activation_less : (b : ℕ) (s t : Task) → AsksLess s t → activation b s ≤ activation b t
activation_less b s t less =
    let waits : s.waits * b ≡ t.waits * b = ap (λ n. n * b) less.waits in
    omega (arith, less.ticks, waits)

term_less : (b r : ℕ) (s t : Task) → AsksLess s t → div_ceil r s.frame * activation b s ≤ div_ceil r t.frame * activation b t
term_less b r s t less =
    let frame : div_ceil r s.frame * activation b s ≡ div_ceil r t.frame * activation b s = ap (λ n. div_ceil r n * activation b s) less.frame in
    let more : div_ceil r t.frame * activation b s ≤ div_ceil r t.frame * activation b t = mul-le-mul_left (div_ceil r t.frame) (activation_less b s t less) in
    omega (arith, frame, more)

asked_more : (b r n : ℕ) (ts : List Task) → n < length ts → asked b r (take (suc n) ts) ≡ asked b r (take n ts) + div_ceil r (task_at ts n).frame * activation b (task_at ts n)
asked_more b r n ts below =
    let e : suc n ≡ n + 1 = omega arith in
    ap (λ k. asked b r (take k ts)) e ∙ sum_by_more (λ t. div_ceil r t.frame * activation b t) ts n nobody below

starts_more : (r n : ℕ) (ts : List Task) → n < length ts → starts_in r (take (suc n) ts) ≡ starts_in r (take n ts) + div_ceil r (task_at ts n).frame
starts_more r n ts below =
    let e : suc n ≡ n + 1 = omega arith in
    ap (λ k. starts_in r (take k ts)) e ∙ sum_by_more (λ t. div_ceil r t.frame) ts n nobody below

asked_less : (b r n : ℕ) (ss ts : List Task) → AskLess n ss ts → asked b r (take n ss) ≤ asked b r (take n ts)
asked_less b r zero ss ts less = omega arith
asked_less b r (suc n) ss ts less =
    let rest = asked_less b r n ss ts (fewer (suc n) n ss ts (omega arith) less) in
    let last = term_less b r (task_at ss n) (task_at ts n) (less.each n (omega arith)) in
    omega (arith, rest, last, asked_more b r n ss (omega (arith, less.fit)), asked_more b r n ts (omega (arith, less.fit_too)))

starts_same : (r n : ℕ) (ss ts : List Task) → AskLess n ss ts → starts_in r (take n ss) ≡ starts_in r (take n ts)
starts_same r zero ss ts less = refl
starts_same r (suc n) ss ts less =
    let rest = starts_same r n ss ts (fewer (suc n) n ss ts (omega arith) less) in
    let last : div_ceil r (task_at ss n).frame ≡ div_ceil r (task_at ts n).frame = ap (λ k. div_ceil r k) (less.each n (omega arith)).frame in
    omega (arith, rest, last, starts_more r n ss (omega (arith, less.fit)), starts_more r n ts (omega (arith, less.fit_too)))

demand_less : (ss ts : List Task) (level r : ℕ) → AskLess (suc level) ss ts → demand_at ss level r ≤ demand_at ts level r
unfolding demand_at
demand_less ss ts level r less =
    let own = less.each level (omega arith) in
    let run = activation_less (task_at ss level).block (task_at ss level) (task_at ts level) own in
    let block : activation (task_at ss level).block (task_at ts level) ≡ activation (task_at ts level).block (task_at ts level) = ap (λ b. activation b (task_at ts level)) own.block in
    let asks = asked_less (task_at ss level).block r level ss ts (fewer (suc level) level ss ts (omega arith) less) in
    let same : asked (task_at ss level).block r (take level ts) ≡ asked (task_at ts level).block r (take level ts) = ap (λ b. asked b r (take level ts)) own.block in
    omega (arith, run, block, asks, same, own.block)

solves_less : (ss ts : List Task) (level r : ℕ) → AskLess (suc level) ss ts → Solves ts level r → Solves ss level r
solves_less ss ts level r less solves = record {
  above = solves.above;
  within = omega (arith, solves.within, (less.each level (omega arith)).deadline);
  met = omega (arith, solves.met, demand_less ss ts level r less);
}

-- tasks that ask for less are in time where the others are
pub timely_less : (ss ts : List Task) → length ss ≡ length ts → AskLess (length ts) ss ts → IsTimely ts → IsTimely ss
timely_less ss ts same less timely = λ level below.
    let solved = timely level (omega (arith, below, same)) in
    (solved.0, solves_less ss ts level solved.0 (fewer (length ts) (suc level) ss ts (omega (arith, below, same)) less) solved.1)

-- a solution is at least what the task asks for itself
pub ticks_within : (ts : List Task) (level r : ℕ) → deadline_at ts level ≤ 1000000000 → Solves ts level r → (task_at ts level).run + (task_at ts level).susp ≤ r
unfolding demand_at
ticks_within ts level r low solves = omega (arith, low, solves.within, solves.met)

-- what may be evaluated goes by frames and deadlines alone
pub evaluations_same : (ss ts : List Task) (n : ℕ) → AskLess n ss ts → evaluations ss n ≡ evaluations ts n
evaluations_same ss ts zero less = refl
evaluations_same ss ts (suc n) less =
    let rest = evaluations_same ss ts n (fewer (suc n) n ss ts (omega arith) less) in
    let due : starts_in (deadline_at ss n) (take (n + 1) ss) ≡ starts_in (deadline_at ts n) (take (n + 1) ss) = ap (λ d. starts_in d (take (n + 1) ss)) (less.each n (omega arith)).deadline in
    let starts = starts_same (deadline_at ts n) (n + 1) ss ts (fewer (suc n) (n + 1) ss ts (omega arith) less) in
    omega (arith, rest, due, starts)
