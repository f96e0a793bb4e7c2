-- The first of letters, by their places among the six.
use Rattle.std.proofs.Common.{◌≡◌, ◌≤◌, ◌<◌, ◌+◌, ℕ, zero, suc, Bool, true, false, inl, inr, map, arith, refl, ap, sym, ◌∙◌}
use Rattle.std.specs.Prelude.{cond, min, nat_le}
use Rattle.std.specs.List.{range_with_len}
use Rattle.std.proofs.lemmas.Bool.{cases_lt}
use Rattle.std.proofs.lemmas.Bool.Decides.{nat_tests}
use Rattle.run_chart.specs.declared.letter.Letter.{Letter}
use Rattle.run_chart.specs.declared.letter.Letter.TheVariants.{Inside, Outside, Overhead, HeldUp, Waits, Blank}
use Rattle.run_chart.specs.Letters.{first_of, first_of_two, order}
use Rattle.calls_law.specs.Charts.{runs}

pub order_of_two : (a b : Letter) → order (first_of_two a b) ≡ min (order a) (order b)
order_of_two a b = by (nat_le (order a) (order b)) refl where
  by : (t : Bool) → nat_le (order a) (order b) ≡ t → order (first_of_two a b) ≡ min (order a) (order b)
  by true is =
      let low : order a ≤ order b = grind (arith, nat_tests, is) in
      let least : min (order a) (order b) ≡ order a = omega (arith, low) in
      ap (λ (t : Bool). order (cond t a b)) is ∙ sym least
  by false is =
      let high : order b < order a = grind (arith, nat_tests, is) in
      let least : min (order a) (order b) ≡ order b = omega (arith, high) in
      ap (λ (t : Bool). order (cond t a b)) is ∙ sym least

-- one of the six that is no later than this runs
pub runs_low : (l : Letter) → runs l ≡ true → order l ≤ 2
runs_low Inside is = omega arith
runs_low Outside is = omega arith
runs_low Overhead is = omega arith
runs_low HeldUp is = absurd cc
runs_low Waits is = absurd cc
runs_low Blank is = absurd cc

pub low_runs : (l : Letter) → order l ≤ 2 → runs l ≡ true
low_runs Inside low = refl
low_runs Outside low = refl
low_runs Overhead low = refl
low_runs HeldUp low = absurd (omega (arith, low))
low_runs Waits low = absurd (omega (arith, low))
low_runs Blank low = absurd (omega (arith, low))

pub inside_low : (l : Letter) → l ≡ Inside → order l ≤ 0
inside_low l is = (let e : order l ≡ 0 = ap order is in omega (arith, e))

pub low_inside : (l : Letter) → order l ≤ 0 → l ≡ Inside
low_inside Inside low = refl
low_inside Outside low = absurd (omega (arith, low))
low_inside Overhead low = absurd (omega (arith, low))
low_inside HeldUp low = absurd (omega (arith, low))
low_inside Waits low = absurd (omega (arith, low))
low_inside Blank low = absurd (omega (arith, low))

-- of n ticks from tick a on, the letter of one is so early among the six
pub record Somewhere (f : ℕ → Letter) (m a n : ℕ) : Type 0 where
  pub t : ℕ
  pub from : a ≤ t
  pub to : t < a + n
  pub low : order (f t) ≤ m

pub low_in : (f : ℕ → Letter) (m a n : ℕ) → m < 5 → order (first_of (map f (range_with_len a n))) ≤ m → Somewhere f m a n
low_in f m a zero few low = absurd (omega (arith, few, low))
low_in f m a (suc n) few low =
    let both = order_of_two (f a) (first_of (map f (range_with_len (a + 1) n))) in
    elim (cases_lt m (order (f a))) [
      | inl above ↦
          let later : Somewhere f m (a + 1) n = low_in f m (a + 1) n few (omega (arith, both, low, above)) in
          let from = later.from in
          let to = later.to in
          record { t = later.t; from = omega (arith, from); to = omega (arith, to); low = later.low }
      | inr here ↦ record { t = a; from = omega arith; to = omega arith; low = here }
    ]

pub low_of : (f : ℕ → Letter) (m a n : ℕ) → Somewhere f m a n → order (first_of (map f (range_with_len a n))) ≤ m
low_of f m a zero some = let from = some.from in let to = some.to in absurd (omega (arith, from, to))
low_of f m a (suc n) some =
    let both = order_of_two (f a) (first_of (map f (range_with_len (a + 1) n))) in
    let from = some.from in
    let to = some.to in
    elim (cases_lt a some.t) [
      | inl later ↦
          let rest = low_of f m (a + 1) n (record { t = some.t; from = omega (arith, later); to = omega (arith, to); low = some.low }) in
          omega (arith, both, rest)
      | inr here ↦
          let same : some.t ≡ a = omega (arith, from, here) in
          let first : order (f some.t) ≡ order (f a) = ap (λ (t : ℕ). order (f t)) same in
          let low = some.low in
          omega (arith, both, first, low)
    ]
