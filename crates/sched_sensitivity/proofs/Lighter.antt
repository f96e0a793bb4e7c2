-- Tasks with shorter runs have the solutions of the others.
use Rattle.std.proofs.Common.{◌≡◌, ◌≤◌, ◌<◌, ◌+◌, ◌*◌, inl, inr, ℕ, zero, suc, List, length, take, ap, ◌∙◌, arith, refl}
use Rattle.std.specs.Int.{div_ceil}
use Rattle.std.proofs.lemmas.List.Sums.{sum_by_more}
use Rattle.std.proofs.Math.Nat.{mul-le-mul_left, eq-or-lt_of_le}
use Rattle.sched_response.specs.declared.tasks.Task.{Task}
use Rattle.sched_response.specs.Demand.{activation, asked, starts_in, demand_at, task_at, deadline_at, Solves}
use Rattle.sched_sensitivity.specs.Slack.{evaluations}

abbrev pub nobody : Task
nobody = record { frame = 0; deadline = 0; run = 0; susp = 0; waits = 0; block = 0 }

-- the same task but for a run that is no longer
pub record IsLighter (s t : Task) : Type 0 where
  pub frame : s.frame ≡ t.frame
  pub deadline : s.deadline ≡ t.deadline
  pub run : s.run ≤ t.run
  pub susp : s.susp ≡ t.susp
  pub waits : s.waits ≡ t.waits
  pub block : s.block ≡ t.block

-- the first n tasks of one list are those of the other but for runs that are no longer
pub record AreLighter (n : ℕ) (ss ts : List Task) : Type 0 where
  pub fit : n ≤ length ss
  pub fit_too : n ≤ length ts
  pub each : (k : ℕ) → k < n → IsLighter (task_at ss k) (task_at ts k)

pub fewer : (n m : ℕ) (ss ts : List Task) → m ≤ n → AreLighter n ss ts → AreLighter m ss ts
fewer n m ss ts low light = record {
  fit = omega (arith, light.fit);
  fit_too = omega (arith, light.fit_too);
  each = λ k below. light.each k (omega arith);
}

activation_lighter : (b : ℕ) (s t : Task) → IsLighter s t → activation b s ≤ activation b t
activation_lighter b s t light =
    let waits : s.waits * b ≡ t.waits * b = ap (λ n. n * b) light.waits in
    omega (arith, light.run, light.susp, waits)

term_lighter : (b r : ℕ) (s t : Task) → IsLighter s t → div_ceil r s.frame * activation b s ≤ div_ceil r t.frame * activation b t
term_lighter b r s t light =
    let frame : div_ceil r s.frame * activation b s ≡ div_ceil r t.frame * activation b s = ap (λ n. div_ceil r n * activation b s) light.frame in
    let more : div_ceil r t.frame * activation b s ≤ div_ceil r t.frame * activation b t = mul-le-mul_left (div_ceil r t.frame) (activation_lighter b s t light) in
    omega (arith, frame, more)

asked_more : (b r n : ℕ) (ts : List Task) → n < length ts → asked b r (take (suc n) ts) ≡ asked b r (take n ts) + div_ceil r (task_at ts n).frame * activation b (task_at ts n)
asked_more b r n ts below =
    let e : suc n ≡ n + 1 = omega arith in
    ap (λ k. asked b r (take k ts)) e ∙ sum_by_more (λ t. div_ceil r t.frame * activation b t) ts n nobody below

starts_more : (r n : ℕ) (ts : List Task) → n < length ts → starts_in r (take (suc n) ts) ≡ starts_in r (take n ts) + div_ceil r (task_at ts n).frame
starts_more r n ts below =
    let e : suc n ≡ n + 1 = omega arith in
    ap (λ k. starts_in r (take k ts)) e ∙ sum_by_more (λ t. div_ceil r t.frame) ts n nobody below

asked_lighter : (b r n : ℕ) (ss ts : List Task) → AreLighter n ss ts → asked b r (take n ss) ≤ asked b r (take n ts)
asked_lighter b r zero ss ts light = omega arith
asked_lighter b r (suc n) ss ts light =
    let rest = asked_lighter b r n ss ts (fewer (suc n) n ss ts (omega arith) light) in
    let last = term_lighter b r (task_at ss n) (task_at ts n) (light.each n (omega arith)) in
    omega (arith, rest, last, asked_more b r n ss (omega (arith, light.fit)), asked_more b r n ts (omega (arith, light.fit_too)))

pub starts_lighter : (r n : ℕ) (ss ts : List Task) → AreLighter n ss ts → starts_in r (take n ss) ≡ starts_in r (take n ts)
starts_lighter r zero ss ts light = refl
starts_lighter r (suc n) ss ts light =
    let rest = starts_lighter r n ss ts (fewer (suc n) n ss ts (omega arith) light) in
    let last : div_ceil r (task_at ss n).frame ≡ div_ceil r (task_at ts n).frame = ap (λ k. div_ceil r k) (light.each n (omega arith)).frame in
    omega (arith, rest, last, starts_more r n ss (omega (arith, light.fit)), starts_more r n ts (omega (arith, light.fit_too)))

demand_lighter : (ss ts : List Task) (level r : ℕ) → AreLighter (suc level) ss ts → demand_at ss level r ≤ demand_at ts level r
unfolding demand_at
demand_lighter ss ts level r light =
    let own = light.each level (omega arith) in
    let run = activation_lighter (task_at ss level).block (task_at ss level) (task_at ts level) own in
    let block : activation (task_at ss level).block (task_at ts level) ≡ activation (task_at ts level).block (task_at ts level) = ap (λ b. activation b (task_at ts level)) own.block in
    let asks = asked_lighter (task_at ss level).block r level ss ts (fewer (suc level) level ss ts (omega arith) light) in
    let same : asked (task_at ss level).block r (take level ts) ≡ asked (task_at ts level).block r (take level ts) = ap (λ b. asked b r (take level ts)) own.block in
    omega (arith, run, block, asks, same, own.block)

pub solves_lighter : (ss ts : List Task) (level r : ℕ) → AreLighter (suc level) ss ts → Solves ts level r → Solves ss level r
solves_lighter ss ts level r light solves = record {
  above = solves.above;
  within = omega (arith, solves.within, (light.each level (omega arith)).deadline);
  met = omega (arith, solves.met, demand_lighter ss ts level r light);
}

-- a solution is at least the run
pub run_within : (ts : List Task) (level r : ℕ) → deadline_at ts level ≤ 1000000000 → Solves ts level r → (task_at ts level).run ≤ r
unfolding demand_at
run_within ts level r low solves = omega (arith, low, solves.within, solves.met)

-- ---- evaluations

pub evaluations_more : (ts : List Task) (n : ℕ) → evaluations ts (n + 1) ≡ evaluations ts n + (2 + starts_in (deadline_at ts n) (take (n + 1) ts))
evaluations_more ts n = let e : n + 1 ≡ suc n = omega arith in ap (λ k. evaluations ts k) e

pub evaluations_up : (ts : List Task) (n m : ℕ) → n ≤ m → evaluations ts n ≤ evaluations ts m
evaluations_up ts n zero low = let e : n ≡ 0 = omega arith in let same : evaluations ts n ≡ evaluations ts 0 = ap (λ k. evaluations ts k) e in omega (arith, same)
evaluations_up ts n (suc m) low = elim (eq-or-lt_of_le low) [
  | inl e ↦ let same : evaluations ts n ≡ evaluations ts (suc m) = ap (λ k. evaluations ts k) e in omega (arith, same)
  | inr lt ↦ let rest = evaluations_up ts n m (omega arith) in omega (arith, rest)
]
