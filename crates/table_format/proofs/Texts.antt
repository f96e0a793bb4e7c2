-- The texts of statements and declarations, in pieces.
use Rattle.std.proofs.Common.{◌≡◌, ◌<◌, ◌+◌, ◌-◌, ℕ, suc, List, [], ◌∷◌, ◌++◌, codes, decimal, refl, ap, sym, ◌∙◌, append_assoc, append-nil, arith}
use Rattle.std.specs.Fmt.{digits}
use Rattle.syntax_tree.specs.Plain.{Name}
use Rattle.syntax_tree.specs.Placed.{Stmt, Decl}
use Rattle.syntax_printer.specs.Canonical.{Line, line_text, text_of, stmt_lines, stmts_lines, decl_lines, lines_of}
use Rattle.table_format.specs.Spending.{Nowhere, in_turn, three, four, five, threes, short_turns, long_turns}
use Rattle.table_format.specs.Parts.{statements_text, declarations_text}

pub text_of-append : (lines more : List Line) → text_of (lines ++ more) ≡ text_of lines ++ text_of more
text_of-append [] more = refl
text_of-append (line ∷ lines) more =
    ap (λ (t : List ℕ). line_text line ++ t) (text_of-append lines more) ∙ sym (append_assoc (line_text line) (text_of lines) (text_of more))

-- ---- statements

pub statements_none : statements_text [] ≡ []
unfolding statements_text
statements_none = refl

pub statements_is : (xs : List (Stmt Nowhere)) → statements_text xs ≡ text_of (stmts_lines (in_turn xs))
unfolding statements_text
statements_is xs = refl

pub statements_first : (s : Stmt Nowhere) (more : List (Stmt Nowhere)) → statements_text (s ∷ more) ≡ text_of (stmt_lines s) ++ statements_text more
unfolding statements_text
statements_first s more = text_of-append (stmt_lines s) (stmts_lines (in_turn more))

pub statements_both : (xs ys : List (Stmt Nowhere)) → statements_text (xs ++ ys) ≡ statements_text xs ++ statements_text ys
statements_both [] ys = sym (ap (λ (t : List ℕ). t ++ statements_text ys) statements_none)
statements_both (x ∷ xs) ys =
    statements_first x (xs ++ ys) ∙ ap (λ (t : List ℕ). text_of (stmt_lines x) ++ t) (statements_both xs ys)
    ∙ sym (append_assoc (text_of (stmt_lines x)) (statements_text xs) (statements_text ys))
    ∙ sym (ap (λ (t : List ℕ). t ++ statements_text ys) (statements_first x xs))

-- ---- declarations

pub declarations_none : declarations_text [] ≡ []
unfolding declarations_text
declarations_none = refl

pub declarations_first : (d : Decl Nowhere) (more : List (Decl Nowhere)) → declarations_text (d ∷ more) ≡ text_of (decl_lines d) ++ declarations_text more
unfolding declarations_text
declarations_first d more = text_of-append (decl_lines d) (lines_of decl_lines more)

pub declarations_both : (xs ys : List (Decl Nowhere)) → declarations_text (xs ++ ys) ≡ declarations_text xs ++ declarations_text ys
declarations_both [] ys = sym (ap (λ (t : List ℕ). t ++ declarations_text ys) declarations_none)
declarations_both (x ∷ xs) ys =
    declarations_first x (xs ++ ys) ∙ ap (λ (t : List ℕ). text_of (decl_lines x) ++ t) (declarations_both xs ys)
    ∙ sym (append_assoc (text_of (decl_lines x)) (declarations_text xs) (declarations_text ys))
    ∙ sym (ap (λ (t : List ℕ). t ++ declarations_text ys) (declarations_first x xs))

-- ---- the digits of the numbers that stand in each program

zero_digits : decimal 0 ≡ codes "0"
unfolding digits
zero_digits = refl

one_digits : decimal 1 ≡ codes "1"
unfolding digits
one_digits = refl

thousand_digits : decimal 1000 ≡ codes "1000"
unfolding digits
thousand_digits = refl

-- ---- the lines of statements that take ticks

last_of_two : (a b : List ℕ) → (a ++ b) ++ [] ≡ a ++ (b ++ [])
last_of_two a b = append_assoc a b []

pub three_text : (tail : Name) → text_of (stmt_lines (three tail)) ≡ codes "x" ++ (tail ++ codes " := 0\n")
three_text tail = (λ i. ((codes "x" ++ tail) ++ (codes " := " ++ (zero_digits i ++ codes "\n"))) ++ []) ∙ simp append_assoc refl

pub four_text : (tail : Name) → text_of (stmt_lines (four tail)) ≡ codes "x" ++ (tail ++ (codes " := x" ++ (tail ++ codes "\n")))
four_text tail = append-nil ((codes "x" ++ tail) ++ (codes " := " ++ ((codes "x" ++ tail) ++ codes "\n")))

pub five_text : (tail : Name) → text_of (stmt_lines (five tail)) ≡ codes "x" ++ (tail ++ codes " := - 1\n")
five_text tail = (λ i. ((codes "x" ++ tail) ++ (codes " := - " ++ (one_digits i ++ codes "\n"))) ++ []) ∙ simp append_assoc refl

pub short_text : (tail : Name) (turns : ℕ) → text_of (stmt_lines (short_turns tail turns)) ≡ codes "for i" ++ (tail ++ (codes " : 1 .. " ++ (decimal turns ++ codes " do\nend for\n")))
short_text tail turns =
    (λ i. (codes "for " ++ ((codes "i" ++ tail) ++ (codes " : " ++ (one_digits i ++ (codes " .. " ++ (decimal turns ++ codes " do\n")))))) ++ (codes "end for\n" ++ [])) ∙ simp append_assoc refl

pub long_text : (tail : Name) (turns : ℕ)
    → text_of (stmt_lines (long_turns tail turns))
    ≡ (codes "for i" ++ (tail ++ (codes " : 1 .. " ++ (decimal turns ++ codes " do\n")))) ++ (codes "for j" ++ (tail ++ codes " : 1 .. 1000 do\nend for\nend for\n"))
long_text tail turns =
    (λ i. (codes "for " ++ ((codes "i" ++ tail) ++ (codes " : " ++ (one_digits i ++ (codes " .. " ++ (decimal turns ++ codes " do\n"))))))
    ++ ((codes "for " ++ ((codes "j" ++ tail) ++ (codes " : " ++ (one_digits i ++ (codes " .. " ++ (thousand_digits i ++ codes " do\n")))))) ++ (codes "end for\n" ++ (codes "end for\n" ++ []))))
    ∙ ap (λ (t : List ℕ). (codes "for i" ++ (tail ++ (codes " : 1 .. " ++ (decimal turns ++ codes " do\n")))) ++ (codes "for j" ++ t)) (append_assoc tail (codes " : 1 .. 1000 do\n") (codes "end for\nend for\n"))

-- ---- many assignments

-- one more of them, where so many are left
pub three_more : (tail : Name) (count before : ℕ) (text after : List ℕ) → before < count
    → after ≡ text ++ (codes "x" ++ (tail ++ codes " := 0\n"))
    → after ++ statements_text (threes tail (count - (before + 1))) ≡ text ++ statements_text (threes tail (count - before))
three_more tail count before text after below is =
    let left : count - before ≡ suc (count - (before + 1)) = omega arith in
    let rest = statements_text (threes tail (count - (before + 1))) in
    ap (λ (t : List ℕ). t ++ rest) (is ∙ ap (λ (t : List ℕ). text ++ t) (sym (three_text tail)))
    ∙ append_assoc text (text_of (stmt_lines (three tail))) rest
    ∙ ap (λ (t : List ℕ). text ++ t) (sym (statements_first (three tail) (threes tail (count - (before + 1)))))
    ∙ ap (λ k. text ++ statements_text (threes tail k)) (sym left)

-- a statement is put, and then others
pub put_first : (s : Stmt Nowhere) (more : List (Stmt Nowhere)) (old middle new one : List ℕ)
    → text_of (stmt_lines s) ≡ one → middle ≡ old ++ one → new ≡ middle ++ statements_text more → new ≡ old ++ statements_text (s ∷ more)
put_first s more old middle new one is put rest =
    rest ∙ ap (λ (t : List ℕ). t ++ statements_text more) (put ∙ ap (λ (t : List ℕ). old ++ t) (sym is))
    ∙ append_assoc old (text_of (stmt_lines s)) (statements_text more) ∙ ap (λ (t : List ℕ). old ++ t) (sym (statements_first s more))
