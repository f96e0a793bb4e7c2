-- The widths of columns.
use Rattle.std.proofs.Common.{◌≡◌, ◌≤◌, ◌<◌, ◌+◌, ◌-◌, ◌*◌, ℕ, zero, suc, Bool, true, false, List, [], ◌∷◌, inl, inr, arith, refl, ap, sym, subst}
use Rattle.std.specs.Prelude.{◌&&◌, cond, nat_le, nat_lt}
use Rattle.std.specs.Int.{div_ceil}
use Rattle.std.proofs.lemmas.Bool.{cases_Bool}
use Rattle.std.proofs.lemmas.Bool.Decides.{nat_tests}
use Rattle.std.proofs.lemmas.Grind.{div_ceil_times}
use Rattle.std.proofs.lemmas.Nat.{mul-le}
use Rattle.run_chart.specs.declared.columns.Columns.{Columns}
use Rattle.run_chart.specs.Spans.{columns_of, first_width, widths}
use Rattle.run_chart.specs.Columns.{AreFew}

-- each of the widths is 1 to 10,000,000
abbrev all_fit : List ℕ → Bool
all_fit [] = true
all_fit (w ∷ ws) = nat_lt 0 w && (nat_le w 10000000 && all_fit ws)

-- a width that is chosen is one of them, and 100 columns of it hold the ticks
pub record Holds (w ticks : ℕ) : Type 0 where
  pub some : 0 < w
  pub wide : w ≤ 10000000
  pub hold : ticks ≤ 100 * w

both : (a b : Bool) → a && b ≡ true → (a ≡ true) × (b ≡ true)
both true b all = (refl, all)
both false b all = absurd cc

chosen : (ws : List ℕ) (ticks : ℕ) → all_fit ws ≡ true → ticks ≤ 1000000000 → Holds (first_width ws ticks) ticks
chosen [] ticks fit few = record { some = omega arith; wide = omega arith; hold = omega (arith, few) }
chosen (w ∷ ws) ticks fit few = by (nat_le ticks (100 * w)) refl (λ all. chosen ws ticks all few) where
  first : (nat_lt 0 w ≡ true) × (nat_le w 10000000 && all_fit ws ≡ true)
  first = both (nat_lt 0 w) (nat_le w 10000000 && all_fit ws) fit

  second : (nat_le w 10000000 ≡ true) × (all_fit ws ≡ true)
  second = both (nat_le w 10000000) (all_fit ws) first.1

  by : (b : Bool) → nat_le ticks (100 * w) ≡ b → (all_fit ws ≡ true → Holds (first_width ws ticks) ticks) → Holds (first_width (w ∷ ws) ticks) ticks
  by true is rest =
      let width : first_width (w ∷ ws) ticks ≡ w = ap (λ (b : Bool). cond b w (first_width ws ticks)) is in
      subst (λ (x : ℕ). Holds x ticks) (sym width)
      (record { some = grind (arith, nat_tests, first.0); wide = grind (arith, nat_tests, second.0); hold = grind (arith, nat_tests, is) })
  by false is rest =
      let width : first_width (w ∷ ws) ticks ≡ first_width ws ticks = ap (λ (b : Bool). cond b w (first_width ws ticks)) is in
      subst (λ (x : ℕ). Holds x ticks) (sym width) (rest second.1)

pub width_holds : (ticks : ℕ) → ticks ≤ 1000000000 → Holds (first_width widths ticks) ticks
width_holds ticks few = chosen widths ticks refl few

-- so few columns are enough
ceil_few : (ticks w : ℕ) → 0 < w → ticks ≤ 100 * w → div_ceil ticks w ≤ 100
ceil_few ticks w some hold = elim (cases_Bool (nat_le (div_ceil ticks w) 100)) [
  | inl few ↦ grind (arith, nat_tests, few)
  | inr many ↦
      let above : 101 ≤ div_ceil ticks w = grind (arith, nat_tests, many) in
      let times : 101 * w ≤ div_ceil ticks w * w = mul-le 101 w (div_ceil ticks w) w above (omega arith) in
      let below : div_ceil ticks w * w < ticks + w = (div_ceil_times ticks w some).1 in
      absurd (omega (arith, times, below, hold))
]

-- a column begins before the end
some_first : (first end w : ℕ) → 0 < div_ceil (end - first) w → end ≤ 1000000000 → first ≤ 1000000000
some_first first end w some high = elim (cases_Bool (nat_le first 1000000000)) [
  | inl low ↦ grind (arith, nat_tests, low)
  | inr over ↦
      let past : 1000000001 ≤ first = grind (arith, nat_tests, over) in
      let none : end - first ≡ 0 = omega (arith, past, high) in
      absurd (let none_at : 0 < div_ceil 0 w = subst (λ (x : ℕ). 0 < div_ceil x w) none some in no_ceil w none_at)
] where
  no_ceil : (v : ℕ) → 0 < div_ceil 0 v → ⊥
  no_ceil zero above = omega (arith, above)
  no_ceil (suc v) above = (let times = (div_ceil_times 0 (suc v) (omega arith)).1 in let most : 1 * suc v ≤ div_ceil 0 (suc v) * suc v = mul-le 1 (suc v) (div_ceil 0 (suc v)) (suc v) above (omega arith) in omega (arith, times, most))

pub columns_are_few : (first end : ℕ) → end ≤ 1000000000 → AreFew (columns_of first end)
columns_are_few first end high =
    let width = width_holds (end - first) (omega (arith, high)) in
    record {
      end = high;
      some = width.some;
      wide = width.wide;
      count = ceil_few (end - first) (first_width widths (end - first)) width.some width.hold;
      first = λ some. some_first first end (first_width widths (end - first)) some high;
    }

-- no column begins past the ticks that numbers hold
pub tick_fits : (columns : Columns) (c : ℕ) → AreFew columns → c < columns.count → c * columns.width ≤ 1000000000
tick_fits columns c few low =
    let count = few.count in
    mul-le c columns.width 100 10000000 (omega (arith, low, count)) few.wide
