-- Tasks that each ask for at most a share of the shortest frame end within a share each.
use Rattle.std.proofs.Common.{◌≡◌, ◌≤◌, ◌<◌, ◌+◌, ◌*◌, ℕ, zero, suc, List, length, take, ap, arith}
use Rattle.std.specs.Int.{div_ceil}
use Rattle.std.proofs.lemmas.Grind.{div_ceil_times}
use Rattle.std.proofs.lemmas.List.Sums.{sum_by_more}
use Rattle.std.proofs.Math.Nat.{mul-le-mul_left, mul-le-mul_right}
use Rattle.sched_response.specs.declared.tasks.Task.{Task}
use Rattle.sched_response.specs.Demand.{activation, asked, demand_at, task_at, Solves}

-- the task has a long frame, and asks for at most its share, even if each blocking takes `stay`
pub record IsLightTask (long share stay : ℕ) (t : Task) : Type 0 where
  pub frame : long ≤ t.frame
  pub block : t.block ≤ stay
  pub asks : (t.run + t.susp + t.waits * stay) + stay ≤ share

-- ---- one activation

-- no more than one activation starts within the frame
at_most_one : (d f r : ℕ) → r ≤ f → d * f < r + f → d ≤ 1
at_most_one zero f r le less = omega arith
at_most_one (suc zero) f r le less = omega arith
at_most_one (suc (suc d)) f r le less =
    let twice : suc (suc d) * f ≡ d * f + (f + f) = grind arith in
    absurd (omega (arith, le, less, twice))

one_start : (r f : ℕ) → 1 ≤ r → r ≤ f → div_ceil r f ≤ 1
one_start r f some le = at_most_one (div_ceil r f) f r le (div_ceil_times r f (omega (arith, some, le))).1

one_of : (d a : ℕ) → d ≤ 1 → d * a ≤ a
one_of d a le = let once : d * a ≤ 1 * a = mul-le-mul_right a le in omega (arith, once)

module _ (long share stay : ℕ) (some : 1 ≤ long) where
  own_asks : (t : Task) → IsLightTask long share stay t → t.block + activation t.block t ≤ share
  own_asks t light =
      let waits : t.waits * t.block ≤ t.waits * stay = mul-le-mul_left t.waits light.block in
      omega (arith, waits, light.block, light.asks)

  asks_once : (b : ℕ) (t : Task) → b ≤ stay → IsLightTask long share stay t → div_ceil long t.frame * activation b t ≤ share
  asks_once b t low light =
      let waits : t.waits * b ≤ t.waits * stay = mul-le-mul_left t.waits low in
      let once : div_ceil long t.frame * activation b t ≤ activation b t = one_of (div_ceil long t.frame) (activation b t) (one_start long t.frame some light.frame) in
      omega (arith, waits, once, light.asks)

  -- ---- those before a level

  before_ask : (ts : List Task) (b i : ℕ) → b ≤ stay → i ≤ length ts → ((j : ℕ) → j < i → IsLightTask long share stay (task_at ts j)) → asked b long (take i ts) ≤ i * share
  before_ask ts b zero low le each = omega arith
  before_ask ts b (suc i) low le each =
      let rest : asked b long (take i ts) ≤ i * share = before_ask ts b i low (omega (arith, le)) (λ j less. each j (omega (arith, less))) in
      let last : div_ceil long (task_at ts i).frame * activation b (task_at ts i) ≤ share = asks_once b (task_at ts i) low (each i (omega arith)) in
      let d : Task = record { frame = 0; deadline = 0; run = 0; susp = 0; waits = 0; block = 0 } in
      let more : asked b long (take (i + 1) ts) ≡ asked b long (take i ts) + div_ceil long (task_at ts i).frame * activation b (task_at ts i) =
      sum_by_more (λ (t : Task). div_ceil long t.frame * activation b t) ts i d (omega (arith, le)) in
      let after : suc i ≡ i + 1 = omega arith in
      let one_more : asked b long (take (suc i) ts) ≡ asked b long (take (i + 1) ts) = ap (λ n. asked b long (take n ts)) after in
      let next : suc i * share ≡ i * share + share = grind arith in
      omega (arith, rest, last, more, one_more, next)

-- ---- the recurrence

product_some : (m n : ℕ) → 1 ≤ m → 1 ≤ n → 1 ≤ m * n
product_some m n some_m some_n = let least : m * 1 ≤ m * n = mul-le-mul_left m some_n in omega (arith, some_m, least)

pub light_tasks_respond : (count share stay : ℕ) (ts : List Task) (level : ℕ) → 1 ≤ share → length ts ≡ count → level < count
    → ((j : ℕ) → j < count → IsLightTask (count * share) share stay (task_at ts j)) → count * share ≤ (task_at ts level).deadline → Solves ts level (count * share)
unfolding demand_at
light_tasks_respond count share stay ts level some_share long low each within =
    let some : 1 ≤ count * share = product_some count share (omega (arith, low)) some_share in
    let own = each level low in
    let first = own_asks (count * share) share stay some (task_at ts level) own in
    let others = before_ask (count * share) share stay some ts (task_at ts level).block level own.block (omega (arith, low, long)) (λ j less. each j (omega (arith, less, low))) in
    let all : suc level * share ≤ count * share = mul-le-mul_right share low in
    let sum : suc level * share ≡ level * share + share = grind arith in
    record { above = some; within = within; met = omega (arith, first, others, all, sum) }
