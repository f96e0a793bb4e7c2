-- Each address of the code is in a piece.
use Rattle.std.proofs.Common.{◌≡◌, ◌≤◌, ◌<◌, ◌+◌, inl, inr, ℕ, zero, suc, List, length, Option, Some, None, arith, refl, ap, sym, ◌∙◌}
use Rattle.std.specs.Prelude.{nat_eq, slice_get}
use Rattle.std.proofs.lemmas.Bool.{cases_lt, eqb-true}
use Rattle.machine_semantics.specs.Image.{Image}
use Rattle.valid_image.specs.Fault.{or_else, first_of, of_some}
use Rattle.valid_image.specs.Pieces.{Piece, end_of_piece, pieces, due_start}
use Rattle.valid_image.specs.Shape.{routine_shape_fault, process_shape_fault, coverage_fault, shape_fault}
use Rattle.valid_image_law.proofs.Firsts.{neither, passed_test}
use Rattle.valid_image_law.proofs.Owners.{Follow}

-- a piece that has the address
pub record Has (xs : List Piece) (a : ℕ) : Type 0 where
  pub k : ℕ
  pub piece : Piece
  pub at : slice_get xs k ≡ Some piece
  pub from : piece.start ≤ a
  pub to : a < piece.start + piece.length

-- pieces that follow one another cover all up to where the next would start
pub covered : (xs : List Piece) (n a : ℕ) → Follow xs → a < due_start xs n → Has xs a
covered xs zero a follow low = absurd (omega (arith, low))
covered xs (suc k) a follow low = by (λ before. covered xs k a follow before) (slice_get xs k) refl where
  by : (a < due_start xs k → Has xs a) → (o : Option Piece) → slice_get xs k ≡ o → Has xs a
  by earlier None at = absurd (let none : end_of_piece (slice_get xs k) ≡ 0 = ap (λ o. end_of_piece o) at in omega (arith, low, none))
  by earlier (Some x) at =
      let ends : end_of_piece (slice_get xs k) ≡ x.start + x.length = ap (λ o. end_of_piece o) at in
      elim (cases_lt a x.start) [
        | inl before ↦ (let starts : x.start ≡ due_start xs k = follow k x at in earlier (omega (arith, before, starts)))
        | inr from ↦ record { k = k; piece = x; at = at; from = from; to = omega (arith, low, ends) }
      ]

-- the pieces end where the code ends
pub all_covered : (image : Image) → shape_fault image ≡ None → due_start (pieces image) (length (pieces image)) ≡ length image.code
all_covered image none =
    let one = neither (first_of (λ r. of_some (routine_shape_fault image r) (slice_get image.routines r)) (length image.routines) 0)
    (or_else (first_of (λ k. of_some (process_shape_fault image k) (slice_get image.processes k)) (length image.processes) 0) (coverage_fault image)) none in
    let two = neither (first_of (λ k. of_some (process_shape_fault image k) (slice_get image.processes k)) (length image.processes) 0) (coverage_fault image) one.1 in
    let end : ℕ = due_start (pieces image) (length (pieces image)) in
    eqb-true end (length image.code) (passed_test (nat_eq end (length image.code)) end 0 two.1)
