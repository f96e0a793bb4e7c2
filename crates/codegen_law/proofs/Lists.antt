-- Small laws of lists of instructions.
use Rattle.std.proofs.Common.{◌≡◌, ◌+◌, ℕ, ℤ, List, [], ◌∷◌, ◌++◌, map, length, slice_get, slice_set, Some, refl, sym, ap, subst, ◌∙◌, append_assoc, arith}
use Rattle.std.proofs.lemmas.List.{length-append}
use Rattle.machine_isa.specs.declared.instr.Instr.{Instr}
use Rattle.code_spec.specs.Emits.{Has}
use Rattle.codegen_spec.specs.Made.{aimed, aims, aim_one}

pub set_at : {A : Type 0} (xs : List A) (x y : A) (ys : List A) → slice_set (xs ++ x ∷ ys) (length xs) y ≡ xs ++ y ∷ ys
set_at [] x y ys = refl
set_at (z ∷ xs) x y ys = ap (λ zs. z ∷ zs) (set_at xs x y ys)

pub get_at : {A : Type 0} (xs : List A) (x : A) (ys : List A) → slice_get (xs ++ x ∷ ys) (length xs) ≡ Some x
get_at [] x ys = refl
get_at (z ∷ xs) x ys = get_at xs x ys

pub has_rest : (all : List Instr) (p q : ℕ) (xs ys : List Instr) → q ≡ p + length xs → Has all p (xs ++ ys) → Has all q ys
has_rest all p q [] ys e h = let f : p ≡ q = omega arith in subst (λ k. Has all k ys) f h
has_rest all p q (x ∷ xs) ys e h = let f : q ≡ p + 1 + length xs = omega arith in has_rest all (p + 1) q xs ys f h.1

-- exits that are aimed stay so
pub aims_all : (to : ℤ) (pre xs : List Instr) → aims to (length pre) (length xs) (pre ++ xs) ≡ pre ++ map (aimed to) xs
aims_all to pre [] = refl
aims_all to pre (x ∷ xs) =
    let here : aim_one to (length pre) (slice_get (pre ++ x ∷ xs) (length pre)) (pre ++ x ∷ xs) ≡ (pre ++ aimed to x ∷ []) ++ xs =
    ap (λ j. aim_one to (length pre) j (pre ++ x ∷ xs)) (get_at pre x xs) ∙ set_at pre x (aimed to x) xs ∙ sym (append_assoc pre (aimed to x ∷ []) xs) in
    let long : length pre + 1 ≡ length (pre ++ aimed to x ∷ []) = sym (length-append pre (aimed to x ∷ [])) in
    ap (λ code. aims to (length pre + 1) (length xs) code) here
    ∙ ap (λ p. aims to p (length xs) ((pre ++ aimed to x ∷ []) ++ xs)) long
    ∙ aims_all to (pre ++ aimed to x ∷ []) xs
    ∙ append_assoc pre (aimed to x ∷ []) (map (aimed to) xs)
