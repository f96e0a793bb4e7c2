-- The pieces of a valid image's code cover it, one after the other.
use Rattle.std.proofs.Common.{◌≡◌, ◌+◌, ◌++◌, ◌∙◌, ℕ, zero, suc, List, [], ◌∷◌, length, map, Some, None, arith, refl}
use Rattle.std.specs.Prelude.{nat_eq, slice_get}
use Rattle.std.proofs.lemmas.Bool.{eqb-true}
use Rattle.machine_semantics.specs.Trees.{size}
use Rattle.machine_semantics.specs.Image.{Image, Process, Routine}
use Rattle.valid_image.specs.Fault.{first_of, of_some, or_else}
use Rattle.valid_image.specs.Pieces.{Piece, due_start, end_of_piece, handler_length, piece_of_process, piece_of_routine, pieces}
use Rattle.valid_image.specs.Shape.{coverage_fault, process_shape_fault, routine_shape_fault, shape_fault}
use Rattle.valid_image_law.proofs.Firsts.{neither, passed_test}
use Rattle.valid_image_law.proofs.Shapes.{follow}

-- ---- sums over a list

abbrev pub weights : {X : Type 0} → (X → ℕ) → List X → ℕ
weights f [] = 0
weights f (x ∷ xs) = f x + weights f xs

pub weightless : {X : Type 0} (xs : List X) → weights (λ (x : X). 0) xs ≡ 0
weightless [] = refl
weightless (x ∷ xs) = let rest = weightless xs in omega (arith, rest)

weights_append : {X : Type 0} (f : X → ℕ) (xs ys : List X) → weights f (xs ++ ys) ≡ weights f xs + weights f ys
weights_append f [] ys = omega arith
weights_append f (x ∷ xs) ys = let rest = weights_append f xs ys in omega (arith, rest)

pub weights_map : {X Y : Type 0} (f : Y → ℕ) (g : X → Y) (xs : List X) → weights f (map g xs) ≡ weights (λ x. f (g x)) xs
weights_map f g [] = refl
weights_map f g (x ∷ xs) = let rest = weights_map f g xs in omega (arith, rest)

-- ---- pieces from an address on

abbrev due_from : ℕ → List Piece → ℕ → ℕ
due_from b xs zero = b
due_from b xs (suc k) = end_of_piece (slice_get xs k)

one_on : (b : ℕ) (x : Piece) (xs : List Piece) → due_from b (x ∷ xs) (suc (length xs)) ≡ due_from (x.start + x.length) xs (length xs)
one_on b x [] = refl
one_on b x (y ∷ ys) = refl

abbrev Follows : ℕ → List Piece → Type 0
Follows b xs = (j : ℕ) (x : Piece) → slice_get xs j ≡ Some x → x.start ≡ due_from b xs j

next : (b : ℕ) (x : Piece) (xs : List Piece) → Follows b (x ∷ xs) → Follows (x.start + x.length) xs
next b x xs h zero y at = h 1 y at
next b x xs h (suc j) y at = h (suc (suc j)) y at

total : (b : ℕ) (xs : List Piece) → Follows b xs → due_from b xs (length xs) ≡ b + weights (λ (x : Piece). x.length) xs
total b [] h = omega arith
total b (x ∷ xs) h =
    let first : x.start ≡ b = h 0 x refl in
    let rest = total (x.start + x.length) xs (next b x xs h) in
    omega (arith, first, one_on b x xs, rest)

same : (xs : List Piece) (k : ℕ) → due_start xs k ≡ due_from 0 xs k
same xs zero = refl
same xs (suc k) = refl

-- ---- an image

-- the instructions of a routine with its RET, and those of a process with its END
abbrev pub span_of_routine : Routine → ℕ
span_of_routine r = size r.tree + 1

abbrev pub span_of_process : Process → ℕ
span_of_process p = size p.body + 1 + handler_length p.handler_tree

pub covered : (image : Image) → shape_fault image ≡ None → weights span_of_routine image.routines + weights span_of_process image.processes ≡ length image.code
covered image none =
    let routines = first_of (λ r. of_some (routine_shape_fault image r) (slice_get image.routines r)) (length image.routines) 0 in
    let processes = first_of (λ k. of_some (process_shape_fault image k) (slice_get image.processes k)) (length image.processes) 0 in
    let ps = pieces image in
    let last = (neither processes (coverage_fault image) (neither routines (or_else processes (coverage_fault image)) none).1).1 in
    let ends : due_start ps (length ps) ≡ length image.code = eqb-true (due_start ps (length ps)) (length image.code) (passed_test (nat_eq (due_start ps (length ps)) (length image.code)) (due_start ps (length ps)) 0 last) in
    let all = total 0 ps (λ j x at. follow image none j x at ∙ same ps j) in
    omega (
      arith,
      ends,
      same ps (length ps),
      all,
      weights_append (λ (x : Piece). x.length) (map piece_of_routine image.routines) (map piece_of_process image.processes),
      weights_map (λ (x : Piece). x.length) piece_of_routine image.routines,
      weights_map (λ (x : Piece). x.length) piece_of_process image.processes,
    )
