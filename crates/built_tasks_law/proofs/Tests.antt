-- Tests on lists, and on instructions.
use Rattle.std.specs.Prelude.{◌≡◌, ◌||◌, ◌++◌, ℕ, Bool, true, false, List, [], ◌∷◌, Option, Some}
use Rattle.std.proofs.Common.{refl, sym, ap, ◌∙◌}
use Rattle.machine_isa.specs.declared.instr.Instr.{Instr}
use Rattle.valid_image.specs.Pieces.{called_by}
use Rattle.valid_image.specs.Tables.{some_of}
use Rattle.code_spec.specs.Numbering.{Text, Called}
use Rattle.sched_program.specs.Tasks.{passes_some, some_called}

-- ---- either of two

pub or_false : (a : Bool) → a || false ≡ a
or_false true = refl
or_false false = refl

pub or_three : (a b c : Bool) → (a || b) || c ≡ a || (b || c)
or_three true b c = refl
or_three false b c = refl

-- what comes last may be named first
pub or_last : (a b : Bool) → a || ((b || false) || false) ≡ b || a
or_last true true = refl
or_last true false = refl
or_last false true = refl
or_last false false = refl

pub or_both : {a b x y : Bool} → a ≡ x → b ≡ y → a || b ≡ x || y
or_both {a} {b} {x} {y} e h = ap (λ z. z || b) e ∙ ap (λ z. x || z) h

-- ---- lists

pub some_both : (test : ℕ → Bool) (xs ys : List ℕ) → some_of test (xs ++ ys) ≡ some_of test xs || some_of test ys
some_both test [] ys = refl
some_both test (x ∷ xs) ys = ap (λ z. test x || z) (some_both test xs ys) ∙ sym (or_three (test x) (some_of test xs) (some_of test ys))

pub called_both : (test : Text → Bool) (means : Called → Option Text) (cs ds : List Called)
    → some_called test means (cs ++ ds) ≡ some_called test means cs || some_called test means ds
called_both test means [] ds = refl
called_both test means (c ∷ cs) ds =
    ap (λ z. passes_some test (means c) || z) (called_both test means cs ds)
    ∙ sym (or_three (passes_some test (means c)) (some_called test means cs) (some_called test means ds))

-- ---- instructions

-- the routine that an instruction calls, if any, passes
abbrev pub passes : (ℕ → Bool) → Option Instr → Bool
passes test o = some_of test (called_by o)

abbrev pub some_in : (ℕ → Bool) → List Instr → Bool
some_in test [] = false
some_in test (x ∷ xs) = passes test (Some x) || some_in test xs

pub in_both : (test : ℕ → Bool) (xs ys : List Instr) → some_in test (xs ++ ys) ≡ some_in test xs || some_in test ys
in_both test [] ys = refl
in_both test (x ∷ xs) ys =
    ap (λ z. passes test (Some x) || z) (in_both test xs ys) ∙ sym (or_three (passes test (Some x)) (some_in test xs) (some_in test ys))

-- two parts, of which we know what they come to
pub in_parts : (test : ℕ → Bool) (xs ys : List Instr) (a b : Bool) → some_in test xs ≡ a → some_in test ys ≡ b → some_in test (xs ++ ys) ≡ a || b
in_parts test xs ys a b e h = in_both test xs ys ∙ or_both e h

-- the second of which calls nothing
pub in_front : (test : ℕ → Bool) (xs ys : List Instr) (a : Bool) → some_in test xs ≡ a → some_in test ys ≡ false → some_in test (xs ++ ys) ≡ a
in_front test xs ys a e h = in_parts test xs ys a false e h ∙ or_false a
