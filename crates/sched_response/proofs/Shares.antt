-- What the tasks of higher rank take in the long run is no more than what they ask for, so no
-- response that meets the recurrence is below the work over what they leave.
use Rattle.std.proofs.Common.{◌≡◌, ◌≤◌, ◌<◌, ◌+◌, ◌-◌, ◌*◌, ℕ, zero, suc, List, length, get_or, take, ap, arith}
use Rattle.std.specs.Int.{div_ceil}
use Rattle.std.proofs.lemmas.Grind.{div_ceil_times}
use Rattle.std.proofs.lemmas.List.Sums.{sum_by_more}
use Rattle.std.proofs.lemmas.Nat.{mul-le}
use Rattle.std.proofs.Math.Nat.{mul-le-mul_left, mul-le-mul_right}
use Rattle.sched_response.specs.declared.tasks.Task.{Task}
use Rattle.base.specs.Capped.{cap}
use Rattle.sched_response.specs.Demand.{activation, asked, demand_of, demand_at, task_at, Solves}

-- a share over a time is no more than what the activations of that time ask for
pub share_asks : (s f a d r whole : ℕ) → s * f ≤ whole * a → r ≤ d * f → s * r ≤ whole * (d * a)
share_asks s f a d r whole less reached =
    let long : s * r ≤ s * (d * f) = mul-le-mul_left s reached in
    let times : d * (s * f) ≤ d * (whole * a) = mul-le-mul_left d less in
    let left : s * (d * f) ≡ d * (s * f) = grind arith in
    let right : d * (whole * a) ≡ whole * (d * a) = grind arith in
    omega (arith, long, times, left, right)

-- one more task in the sum of the shares
pub shares_more : (whole b : ℕ) (ts : List Task) (i total s : ℕ) (d : Task) → i < length ts → 0 < (get_or ts i d).frame → s * (get_or ts i d).frame ≤ whole * activation b (get_or ts i d) → ((r : ℕ) → total * r ≤ whole * asked b r (take i ts)) → (r : ℕ) → (total + s) * r ≤ whole * asked b r (take (i + 1) ts)
shares_more whole b ts i total s d within pos less was r =
    let t = get_or ts i d in
    let reached = div_ceil_times r t.frame pos in
    let own : s * r ≤ whole * (div_ceil r t.frame * activation b t) = share_asks s t.frame (activation b t) (div_ceil r t.frame) r whole less reached.0 in
    let before : total * r ≤ whole * asked b r (take i ts) = was r in
    let more : asked b r (take (i + 1) ts) ≡ asked b r (take i ts) + div_ceil r t.frame * activation b t = sum_by_more (λ (t : Task). div_ceil r t.frame * activation b t) ts i d within in
    let sides : (total + s) * r ≡ total * r + s * r = grind arith in
    let whole_sides : whole * (asked b r (take i ts) + div_ceil r t.frame * activation b t) ≡ whole * asked b r (take i ts) + whole * (div_ceil r t.frame * activation b t) = grind arith in
    rw more (omega (arith, own, before, sides, whole_sides))

-- work that is done beside what is asked leaves its share
pub work_fits : (whole work total asks r : ℕ) → work + asks ≤ r → total * r ≤ whole * asks → work * whole + total * r ≤ r * whole
work_fits whole work total asks r met less =
    let times : (work + asks) * whole ≤ r * whole = mul-le-mul_right whole met in
    let sides : (work + asks) * whole ≡ work * whole + whole * asks = grind arith in
    omega (arith, times, sides, less)

-- so the work is within the rest of the processor over the response
pub work_left : (whole work taken r : ℕ) → taken ≤ whole → work * whole + taken * r ≤ r * whole → work * whole ≤ r * (whole - taken)
work_left whole work taken r part fits =
    let sum : whole ≡ (whole - taken) + taken = omega (arith, part) in
    let sides : r * ((whole - taken) + taken) ≡ r * (whole - taken) + taken * r = grind arith in
    let same : r * whole ≡ r * ((whole - taken) + taken) = ap (λ n. r * n) sum in
    omega (arith, fits, sides, same)

-- and there is none where no processor is left
pub none_left : (whole work taken r : ℕ) → 0 < whole → 0 < work → whole ≤ taken → work * whole + taken * r ≤ r * whole → ⊥
none_left whole work taken r some busy full fits =
    let most : whole * r ≤ taken * r = mul-le-mul_right r full in
    let turned : whole * r ≡ r * whole = grind arith in
    let least : 1 * 1 ≤ work * whole = mul-le 1 1 work whole busy some in
    omega (arith, most, turned, least, fits)

-- a response that solves has done the work of the level beside what is asked
pub solved_work : (whole taken work : ℕ) (ts : List Task) (level r : ℕ) (own : Task) (before : List Task) → own ≡ task_at ts level → before ≡ take level ts → own.deadline ≤ 1000000000 → work ≡ cap (own.block + cap (activation own.block own)) → taken * r ≤ whole * asked own.block r before → Solves ts level r → work * whole + taken * r ≤ r * whole
unfolding demand_at
solved_work whole taken work ts level r own before own_is before_is high work_is less s =
    let demand : demand_of own before r ≤ r = rw (own_is, before_is) s.met in
    let within : r ≤ own.deadline = rw own_is s.within in
    let fits : work + asked own.block r before ≤ r = omega (arith, demand, within, high, work_is) in
    work_fits whole work taken (asked own.block r before) r fits less

-- work takes a tick or more
pub some_ticks : (work ticks share : ℕ) → 0 < work → work ≤ ticks * share → 1 ≤ ticks
some_ticks work zero share busy reached = let none : 0 * share ≡ 0 = grind arith in absurd (omega (arith, busy, reached, none))
some_ticks work (suc ticks) share busy reached = omega arith
