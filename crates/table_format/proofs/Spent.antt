-- Which statements take so many ticks, case by case.
use Rattle.std.proofs.Common.{◌≡◌, ◌≢◌, ◌<◌, ◌≤◌, ◌-◌, ◌*◌, ◌/◌, ◌%◌, ℕ, List, ◌∷◌, ◌++◌, Bool, true, false, codes, decimal, refl, ap, sym, ◌∙◌, arith, eq-eqb, ne_eqb, le-leb, leb-true}
use Rattle.std.specs.Prelude.{◌==◌, nat_le, if◌then◌else◌}
use Rattle.syntax_tree.specs.Plain.{Name}
use Rattle.syntax_tree.specs.Placed.{Stmt}
use Rattle.table_format.specs.Spending.{Nowhere, three, four, five, threes, short_turns, long_turns, spend_by_assignments, spend_by_loop, spend}
use Rattle.table_format.specs.Parts.{statements_text}
use Rattle.table_format.proofs.Texts.{four_text, five_text, short_text, long_text, put_first}
use Rattle.table_format.proofs.Pieces.{join}

pub rest_one : (tail : Name) (n : ℕ) → n % 3 ≡ 1 → spend_by_assignments tail n ≡ four tail ∷ threes tail ((n - 4) / 3)
unfolding spend_by_assignments
rest_one tail n is =
    ap (λ b. if b then four tail ∷ threes tail ((n - 4) / 3) else (if n % 3 == 2 then five tail ∷ threes tail ((n - 5) / 3) else threes tail (n / 3))) (eq-eqb (n % 3) 1 is)

pub rest_two : (tail : Name) (n : ℕ) → n % 3 ≡ 2 → spend_by_assignments tail n ≡ five tail ∷ threes tail ((n - 5) / 3)
unfolding spend_by_assignments
rest_two tail n is =
    let other : n % 3 ≢ 1 = λ e. omega arith in
    ap (λ b. if b then four tail ∷ threes tail ((n - 4) / 3) else (if n % 3 == 2 then five tail ∷ threes tail ((n - 5) / 3) else threes tail (n / 3))) (ne_eqb (n % 3) 1 other)
    ∙ ap (λ b. if b then five tail ∷ threes tail ((n - 5) / 3) else threes tail (n / 3)) (eq-eqb (n % 3) 2 is)

pub rest_none : (tail : Name) (n : ℕ) → n % 3 ≢ 1 → n % 3 ≢ 2 → spend_by_assignments tail n ≡ threes tail (n / 3)
unfolding spend_by_assignments
rest_none tail n one two =
    ap (λ b. if b then four tail ∷ threes tail ((n - 4) / 3) else (if n % 3 == 2 then five tail ∷ threes tail ((n - 5) / 3) else threes tail (n / 3))) (ne_eqb (n % 3) 1 one)
    ∙ ap (λ b. if b then five tail ∷ threes tail ((n - 5) / 3) else threes tail (n / 3)) (ne_eqb (n % 3) 2 two)

pub by_loop_not : (tail : Name) (n : ℕ) → nat_le 18 n ≡ false → spend_by_loop tail n ≡ spend_by_assignments tail n
unfolding spend_by_loop
by_loop_not tail n few =
    ap (λ b. if b then short_turns tail ((n - 8) / 10) ∷ spend_by_assignments tail (n - 5 - 10 * ((n - 8) / 10)) else spend_by_assignments tail n) few

pub by_loop : (tail : Name) (n : ℕ) → nat_le 18 n ≡ true → spend_by_loop tail n ≡ short_turns tail ((n - 8) / 10) ∷ spend_by_assignments tail (n - 5 - 10 * ((n - 8) / 10))
unfolding spend_by_loop
by_loop tail n many =
    ap (λ b. if b then short_turns tail ((n - 8) / 10) ∷ spend_by_assignments tail (n - 5 - 10 * ((n - 8) / 10)) else spend_by_assignments tail n) many

pub by_two_loops_not : (tail : Name) (n : ℕ) → nat_le 10023 n ≡ false → spend tail n ≡ spend_by_loop tail n
unfolding spend
by_two_loops_not tail n few =
    ap (λ b. if b then long_turns tail ((n - 8) / 10015) ∷ spend_by_loop tail (n - 5 - 10015 * ((n - 8) / 10015)) else spend_by_loop tail n) few

pub by_two_loops : (tail : Name) (n : ℕ) → nat_le 10023 n ≡ true → spend tail n ≡ long_turns tail ((n - 8) / 10015) ∷ spend_by_loop tail (n - 5 - 10015 * ((n - 8) / 10015))
unfolding spend
by_two_loops tail n many =
    ap (λ b. if b then long_turns tail ((n - 8) / 10015) ∷ spend_by_loop tail (n - 5 - 10015 * ((n - 8) / 10015)) else spend_by_loop tail n) many

-- ---- what was put

few : (n k : ℕ) → n < k → nat_le k n ≡ false
few n k below = at (nat_le k n) refl
  where
    at : (b : Bool) → nat_le k n ≡ b → nat_le k n ≡ false
    at true e = absurd (let le = leb-true k n e in omega (arith, le, below))
    at false e = e

pub assigned_one : (tail : Name) (n less : ℕ) (old middle new : List ℕ) → n % 3 ≡ 1 → less ≡ n - 4 → middle ≡ old ++ (codes "x" ++ (tail ++ (codes " := x" ++ (tail ++ codes "\n"))))
    → new ≡ middle ++ statements_text (threes tail (less / 3)) → new ≡ old ++ statements_text (spend_by_assignments tail n)
assigned_one tail n less old middle new is so put rest =
    put_first (four tail) (threes tail ((n - 4) / 3)) old middle new _ (four_text tail) put (rest ∙ ap (λ k. middle ++ statements_text (threes tail (k / 3))) so)
    ∙ ap (λ xs. old ++ statements_text xs) (sym (rest_one tail n is))

pub assigned_two : (tail : Name) (n less : ℕ) (old middle new : List ℕ) → n % 3 ≡ 2 → less ≡ n - 5 → middle ≡ old ++ (codes "x" ++ (tail ++ codes " := - 1\n"))
    → new ≡ middle ++ statements_text (threes tail (less / 3)) → new ≡ old ++ statements_text (spend_by_assignments tail n)
assigned_two tail n less old middle new is so put rest =
    put_first (five tail) (threes tail ((n - 5) / 3)) old middle new _ (five_text tail) put (rest ∙ ap (λ k. middle ++ statements_text (threes tail (k / 3))) so)
    ∙ ap (λ xs. old ++ statements_text xs) (sym (rest_two tail n is))

pub assigned_none : (tail : Name) (n : ℕ) (old new : List ℕ) → n % 3 ≢ 1 → n % 3 ≢ 2 → new ≡ old ++ statements_text (threes tail (n / 3)) → new ≡ old ++ statements_text (spend_by_assignments tail n)
assigned_none tail n old new one two put = put ∙ ap (λ xs. old ++ statements_text xs) (sym (rest_none tail n one two))

pub no_loop : (tail : Name) (n : ℕ) (old new : List ℕ) → n < 18 → new ≡ old ++ statements_text (spend_by_assignments tail n) → new ≡ old ++ statements_text (spend_by_loop tail n)
no_loop tail n old new below put = put ∙ ap (λ xs. old ++ statements_text xs) (sym (by_loop_not tail n (few n 18 below)))

pub looped : (tail : Name) (n : ℕ) (d old middle new : List ℕ) → 18 ≤ n → d ≡ decimal ((n - 8) / 10)
    → middle ≡ old ++ (codes "for i" ++ (tail ++ (codes " : 1 .. " ++ (d ++ codes " do\nend for\n"))))
    → new ≡ middle ++ statements_text (spend_by_assignments tail (n - 5 - 10 * ((n - 8) / 10))) → new ≡ old ++ statements_text (spend_by_loop tail n)
looped tail n d old middle new many is put rest =
    put_first (short_turns tail ((n - 8) / 10)) (spend_by_assignments tail (n - 5 - 10 * ((n - 8) / 10))) old middle new _ (short_text tail ((n - 8) / 10))
    (put ∙ ap (λ (s : List ℕ). old ++ (codes "for i" ++ (tail ++ (codes " : 1 .. " ++ (s ++ codes " do\nend for\n"))))) is) rest
    ∙ ap (λ xs. old ++ statements_text xs) (sym (by_loop tail n (le-leb 18 n many)))

pub no_two_loops : (tail : Name) (n : ℕ) (old new : List ℕ) → n < 10023 → new ≡ old ++ statements_text (spend_by_loop tail n) → new ≡ old ++ statements_text (spend tail n)
no_two_loops tail n old new below put = put ∙ ap (λ xs. old ++ statements_text xs) (sym (by_two_loops_not tail n (few n 10023 below)))

pub looped_twice : (tail : Name) (n : ℕ) (d old first middle new : List ℕ) → 10023 ≤ n → d ≡ decimal ((n - 8) / 10015)
    → first ≡ old ++ (codes "for i" ++ (tail ++ (codes " : 1 .. " ++ (d ++ codes " do\n")))) → middle ≡ first ++ (codes "for j" ++ (tail ++ codes " : 1 .. 1000 do\nend for\nend for\n"))
    → new ≡ middle ++ statements_text (spend_by_loop tail (n - 5 - 10015 * ((n - 8) / 10015))) → new ≡ old ++ statements_text (spend tail n)
looped_twice tail n d old first middle new many is one two rest =
    put_first (long_turns tail ((n - 8) / 10015)) (spend_by_loop tail (n - 5 - 10015 * ((n - 8) / 10015))) old middle new _ (long_text tail ((n - 8) / 10015))
    (join old first middle _ _ (one ∙ ap (λ (s : List ℕ). old ++ (codes "for i" ++ (tail ++ (codes " : 1 .. " ++ (s ++ codes " do\n"))))) is) two) rest
    ∙ ap (λ xs. old ++ statements_text xs) (sym (by_two_loops tail n (le-leb 10023 n many)))
