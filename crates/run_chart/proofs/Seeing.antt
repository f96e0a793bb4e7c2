-- The letters of several ticks, as they come.
use Rattle.std.proofs.Common.{◌≡◌, ◌≤◌, ◌<◌, ◌+◌, ◌-◌, ◌++◌, ℕ, zero, suc, Bool, true, false, List, [], ◌∷◌, map, arith, refl, ap, sym, ◌∙◌}
use Rattle.std.specs.Prelude.{cond, min, nat_le}
use Rattle.std.specs.List.{range_with_len}
use Rattle.std.proofs.lemmas.Bool.Decides.{nat_tests}
use Rattle.std.proofs.lemmas.List.{map-append}
use Rattle.run_chart.specs.declared.letter.Letter.{Letter}
use Rattle.run_chart.specs.declared.letter.Letter.TheVariants.{Inside, Outside, Overhead, HeldUp, Waits, Blank}
use Rattle.run_chart.specs.Letters.{first_of, first_of_two, order}

-- ---- the first of two, of three and of many

-- the letter in this place among the six
abbrev placed : ℕ → Letter
placed zero = Inside
placed (suc zero) = Outside
placed (suc (suc zero)) = Overhead
placed (suc (suc (suc zero))) = HeldUp
placed (suc (suc (suc (suc zero)))) = Waits
placed (suc (suc (suc (suc (suc n))))) = Blank

placed_back : (l : Letter) → placed (order l) ≡ l
placed_back Inside = refl
placed_back Outside = refl
placed_back Overhead = refl
placed_back HeldUp = refl
placed_back Waits = refl
placed_back Blank = refl

order_of_two : (a b : Letter) → order (first_of_two a b) ≡ min (order a) (order b)
order_of_two a b = by (nat_le (order a) (order b)) refl where
  by : (t : Bool) → nat_le (order a) (order b) ≡ t → order (first_of_two a b) ≡ min (order a) (order b)
  by true is =
      let low : order a ≤ order b = grind (arith, nat_tests, is) in
      let least : min (order a) (order b) ≡ order a = omega (arith, low) in
      ap (λ (t : Bool). order (cond t a b)) is ∙ sym least
  by false is =
      let high : order b < order a = grind (arith, nat_tests, is) in
      let least : min (order a) (order b) ≡ order b = omega (arith, high) in
      ap (λ (t : Bool). order (cond t a b)) is ∙ sym least

by_order : (a b : Letter) → order a ≡ order b → a ≡ b
by_order a b same = sym (placed_back a) ∙ (ap placed same ∙ placed_back b)

two_assoc : (a b c : Letter) → first_of_two (first_of_two a b) c ≡ first_of_two a (first_of_two b c)
two_assoc a b c =
    let one = order_of_two (first_of_two a b) c in
    let two = order_of_two a b in
    let three = order_of_two a (first_of_two b c) in
    let four = order_of_two b c in
    by_order (first_of_two (first_of_two a b) c) (first_of_two a (first_of_two b c)) (omega (arith, one, two, three, four))

two_same : (a : Letter) → first_of_two a a ≡ a
two_same a = let one = order_of_two a a in by_order (first_of_two a a) a (omega (arith, one))

order_low : (a : Letter) → order a ≤ 5
order_low Inside = omega arith
order_low Outside = omega arith
order_low Overhead = omega arith
order_low HeldUp = omega arith
order_low Waits = omega arith
order_low Blank = omega arith

two_blank : (a : Letter) → first_of_two Blank a ≡ a
two_blank a = let one = order_of_two Blank a in let low = order_low a in by_order (first_of_two Blank a) a (omega (arith, one, low))

blank_two : (a : Letter) → first_of_two a Blank ≡ a
blank_two a = let one = order_of_two a Blank in let low = order_low a in by_order (first_of_two a Blank) a (omega (arith, one, low))

first_of-append : (xs ys : List Letter) → first_of (xs ++ ys) ≡ first_of_two (first_of xs) (first_of ys)
first_of-append [] ys = sym (two_blank (first_of ys))
first_of-append (x ∷ xs) ys = ap (λ (l : Letter). first_of_two x l) (first_of-append xs ys) ∙ sym (two_assoc x (first_of xs) (first_of ys))

-- ---- ticks

range-append : (a m n : ℕ) → range_with_len a (m + n) ≡ range_with_len a m ++ range_with_len (a + m) n
range-append a zero n =
    let none : 0 + n ≡ n = omega arith in
    let here : a ≡ a + 0 = omega arith in
    ap (λ (x : ℕ). range_with_len a x) none ∙ ap (λ (x : ℕ). range_with_len x n) here
range-append a (suc m) n =
    let more : suc m + n ≡ suc (m + n) = omega arith in
    let here : a + 1 + m ≡ a + suc m = omega arith in
    ap (λ (x : ℕ). range_with_len a x) more
    ∙ ap (λ (ns : List ℕ). a ∷ ns) (range-append (a + 1) m n ∙ ap (λ (x : ℕ). range_with_len (a + 1) m ++ range_with_len x n) here)

-- where the letter is the same in n ticks from tick t on, it is the first of these
same_first : (f : ℕ → Letter) (l : Letter) (t n : ℕ) → ((v : ℕ) → t ≤ v → v < t + suc n → f v ≡ l) → first_of (map f (range_with_len t (suc n))) ≡ l
same_first f l t zero same = ap (λ (x : Letter). first_of_two x Blank) (same t (omega arith) (omega arith)) ∙ blank_two l
same_first f l t (suc n) same =
    ap (λ (x : Letter). first_of_two x (first_of (map f (range_with_len (t + 1) (suc n))))) (same t (omega arith) (omega arith))
    ∙ (ap (λ (x : Letter). first_of_two l x) (same_first f l (t + 1) n (λ v low high. same v (omega (arith, low)) (omega (arith, high)))) ∙ two_same l)

-- the letters from tick a on, up to before tick u, where it is the same from tick t on
pub seen_to : (f : ℕ → Letter) (l seen : Letter) (a t u : ℕ) → a ≤ t → t < u → seen ≡ first_of (map f (range_with_len a (t - a))) → ((v : ℕ) → t ≤ v → v < u → f v ≡ l)
    → first_of_two seen l ≡ first_of (map f (range_with_len a (u - a)))
seen_to f l seen a t u from later before same =
    let n : ℕ = u - t - 1 in
    let count : u - a ≡ (t - a) + suc n = omega (arith, from, later) in
    let here : a + (t - a) ≡ t = omega (arith, from) in
    sym (ap (λ (x : ℕ). first_of (map f (range_with_len a x))) count
    ∙ (ap (λ (ns : List ℕ). first_of (map f ns)) (range-append a (t - a) (suc n))
    ∙ (ap first_of (map-append f (range_with_len a (t - a)) (range_with_len (a + (t - a)) (suc n)))
    ∙ (first_of-append (map f (range_with_len a (t - a))) (map f (range_with_len (a + (t - a)) (suc n)))
    ∙ (ap (λ (x : Letter). first_of_two x (first_of (map f (range_with_len (a + (t - a)) (suc n))))) (sym before)
    ∙ (ap (λ (x : ℕ). first_of_two seen (first_of (map f (range_with_len x (suc n))))) here
    ∙ ap (λ (x : Letter). first_of_two seen x) (same_first f l t n (λ v low high. same v low (omega (arith, high, later))))))))))
