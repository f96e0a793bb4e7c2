-- The demand rises only where some task starts once more.
use Rattle.std.proofs.Common.{◌≡◌, ◌≤◌, ◌<◌, ◌+◌, ◌*◌, ◌⊎◌, inl, inr, ℕ, suc, List, [], ◌∷◌, length, take, ap, ◌∙◌, arith, refl, zero-add}
use Rattle.std.specs.Prelude.{sum_by, All}
use Rattle.std.specs.Int.{div_ceil}
use Rattle.std.proofs.lemmas.Bool.{cases_lt}
use Rattle.std.proofs.lemmas.Grind.{div_ceil_times}
use Rattle.std.proofs.lemmas.List.Sums.{sum_by-append, sum_by_more}
use Rattle.std.proofs.lemmas.List.Elements.{All-take}
use Rattle.std.proofs.Math.Nat.{mul-le-mul_right}
use Rattle.sched_response.specs.declared.tasks.Task.{Task}
use Rattle.sched_response.specs.Demand.{activation, starts_in, asked, demand_at, IsTask, AreTasks, task_at}

-- rounding up keeps the order
pub div_ceil_mono : (a b n : ℕ) → 0 < n → a ≤ b → div_ceil a n ≤ div_ceil b n
div_ceil_mono a b n pos le =
    let low = div_ceil_times a n pos in
    let high = div_ceil_times b n pos in
    elim (cases_lt (div_ceil b n) (div_ceil a n)) [
      | inr ge ↦ ge
      | inl lt ↦
          let more : (div_ceil b n + 1) * n ≤ div_ceil a n * n = mul-le-mul_right n (let h : div_ceil b n + 1 ≤ div_ceil a n = omega arith in h) in
          let split : (div_ceil b n + 1) * n ≡ div_ceil b n * n + n = grind arith in
          absurd (omega (arith, low.1, high.0, more, split))
    ]

mul_mono : (a b k : ℕ) → a ≤ b → a * k ≤ b * k
mul_mono a b k le = mul-le-mul_right k le

-- over a longer time the starts and what is asked don't fall, and what is asked stays where the starts stay
pub record Rises (b r s : ℕ) (ts : List Task) : Type 0 where
  pub starts : starts_in r ts ≤ starts_in s ts
  pub asks : asked b r ts ≤ asked b s ts
  pub same : (asked b r ts ≡ asked b s ts) ⊎ (starts_in r ts < starts_in s ts)

head_task : (t : Task) (ts : List Task) → All IsTask (t ∷ ts) → IsTask t
head_task t ts all = all 0 t (omega arith)

rest_tasks : (t : Task) (ts : List Task) → All IsTask (t ∷ ts) → All IsTask ts
rest_tasks t ts all k d below = all (suc k) d (omega arith)

sum_by-cons : (f : Task → ℕ) (t : Task) (ts : List Task) → sum_by f (t ∷ ts) ≡ f t + sum_by f ts
sum_by-cons f t ts = sum_by-append f (t ∷ []) ts ∙ ap (λ n. n + sum_by f ts) (zero-add (f t))

pub rises : (b r s : ℕ) (ts : List Task) → r ≤ s → All IsTask ts → Rises b r s ts
rises b r s [] le all = record { starts = omega arith; asks = omega arith; same = inl refl }
rises b r s (t ∷ ts) le all =
    let pos : 0 < t.frame = omega (arith, (head_task t ts all).frame_low) in
    let more : div_ceil r t.frame ≤ div_ceil s t.frame = div_ceil_mono r s t.frame pos le in
    let product : div_ceil r t.frame * activation b t ≤ div_ceil s t.frame * activation b t = mul_mono _ _ (activation b t) more in
    let starts_r : starts_in r (t ∷ ts) ≡ div_ceil r t.frame + starts_in r ts = sum_by-cons (λ t. div_ceil r t.frame) t ts in
    let starts_s : starts_in s (t ∷ ts) ≡ div_ceil s t.frame + starts_in s ts = sum_by-cons (λ t. div_ceil s t.frame) t ts in
    let asks_r : asked b r (t ∷ ts) ≡ div_ceil r t.frame * activation b t + asked b r ts = sum_by-cons (λ t. div_ceil r t.frame * activation b t) t ts in
    let asks_s : asked b s (t ∷ ts) ≡ div_ceil s t.frame * activation b t + asked b s ts = sum_by-cons (λ t. div_ceil s t.frame * activation b t) t ts in
    let rest : Rises b r s ts = rises b r s ts le (rest_tasks t ts all) in
    record {
      starts = omega (arith, more, rest.starts, starts_r, starts_s);
      asks = omega (arith, product, rest.asks, asks_r, asks_s);
      same = elim (cases_lt (div_ceil r t.frame) (div_ceil s t.frame)) [
        | inl lt ↦ inr (omega (arith, lt, rest.starts, starts_r, starts_s))
        | inr ge ↦
            let e : div_ceil r t.frame ≡ div_ceil s t.frame = omega (arith, ge, more) in
            elim rest.same [
              | inl same ↦ inl (let p : div_ceil r t.frame * activation b t ≡ div_ceil s t.frame * activation b t = ap (λ n. n * activation b t) e in omega (arith, p, same, asks_r, asks_s))
              | inr lt ↦ inr (omega (arith, e, lt, starts_r, starts_s))
            ]
      ];
    }

before_tasks : (ts : List Task) (level : ℕ) → AreTasks ts → All IsTask (take level ts)
before_tasks ts level are = All-take IsTask level ts are.each

rises_at : (ts : List Task) (level r s : ℕ) → AreTasks ts → r ≤ s → Rises (task_at ts level).block r s (take level ts)
rises_at ts level r s are le = rises _ r s (take level ts) le (before_tasks ts level are)

-- the demand doesn't fall
pub demand_mono : (ts : List Task) (level r s : ℕ) → AreTasks ts → r ≤ s → demand_at ts level r ≤ demand_at ts level s
unfolding demand_at
demand_mono ts level r s are le = let up = rises_at ts level r s are le in omega (arith, up.asks)

-- and rises only where a task starts once more
pub demand_rises : (ts : List Task) (level r s : ℕ) → AreTasks ts → r ≤ s → demand_at ts level r < demand_at ts level s → starts_in r (take level ts) < starts_in s (take level ts)
unfolding demand_at
demand_rises ts level r s are le more = let up = rises_at ts level r s are le in elim up.same [ inl same ↦ absurd (omega (arith, same, more)) | inr lt ↦ lt ]

pub starts_mono : (ts : List Task) (level r s : ℕ) → AreTasks ts → r ≤ s → starts_in r (take level ts) ≤ starts_in s (take level ts)
starts_mono ts level r s are le = (rises_at ts level r s are le).starts

pub starts_level : (ts : List Task) (level r : ℕ) → level < length ts → starts_in r (take level ts) ≤ starts_in r (take (level + 1) ts)
starts_level ts level r below = omega (arith, sum_by_more (λ t. div_ceil r t.frame) ts level (record { frame = 0; deadline = 0; run = 0; susp = 0; waits = 0; block = 0 }) below)
