-- The faults of a piece, by its addresses.
use Rattle.std.proofs.Common.{◌≡◌, ◌<◌, ◌+◌, ◌++◌, ℕ, zero, suc, Bool, true, false, List, [], ◌∷◌, length, Option, Some, None, refl, ap, sym, ◌∙◌, get_or, arith}
use Rattle.std.specs.Prelude.{cond, slice_get, ◌||◌, not, nat_eq}
use Rattle.std.proofs.lemmas.Option.{slice_get-get_or}
use Rattle.image.specs.declared.raw.RawImage.{RawImage}
use Rattle.image.specs.declared.raw.RawProcess.{RawProcess}
use Rattle.image.specs.declared.raw.RawRoutine.{RawRoutine}
use Rattle.image.specs.Raw.{image_of, routine_of}
use Rattle.machine_semantics.specs.Image.{Image, Process}
use Rattle.valid_image.specs.Fault.{Fault, or_else, first_of}
use Rattle.valid_image.specs.Operands.{Whose, operand_fault_at, operand_fault_in, whose_process}
use Rattle.valid_image.specs.Pieces.{belongs, called, piece_number}
use Rattle.valid_image.specs.Tables.{reach, bound_at, some_of}
use Rattle.loader_code.specs.Owned.{owned, owned_from, AreCalls}
use Rattle.loader_code.proofs.Tables.{bound_row}
use Rattle.loader_code.proofs.Sweeping.{pieces_long}
use Rattle.std.proofs.Math.ListN.{length-append}
use Rattle.std.proofs.lemmas.List.{length-map}
use Rattle.std.proofs.lemmas.Bool.Decides.{nat_tests}
use Rattle.base.proofs.Lists.{map_get, one_more}
use Rattle.loader_code.specs.Seen.{fault_at, first_at, AreFirstBounds}

piece_if : (image : Image) (k : ℕ) (w : Whose) (a : ℕ) (b : Bool) (o : Option Fault) (rest : List ℕ) → o ≡ first_at (fault_at image w) rest
    → or_else (cond b (fault_at image w a) None) o ≡ first_at (fault_at image w) (cond b (a ∷ []) [] ++ rest)
piece_if image k w a true o rest is = ap (λ x. or_else (fault_at image w a) x) is
piece_if image k w a false o rest is = is

piece_from : (image : Image) (k : ℕ) (w : Whose) (n a : ℕ) → first_of (operand_fault_at image k w) n a ≡ first_at (fault_at image w) (owned_from image k n a)
piece_from image k w zero a = refl
piece_from image k w (suc n) a = piece_if image k w a (belongs image k a) (first_of (operand_fault_at image k w) n (a + 1)) (owned_from image k n (a + 1)) (piece_from image k w n (a + 1))

pub piece_fault : (image : Image) (k : ℕ) (w : Whose) (addresses : List ℕ) (o : Option Fault) → addresses ≡ owned image k → o ≡ first_at (fault_at image w) addresses → o ≡ operand_fault_in image k w
piece_fault image k w addresses o is found = found ∙ (ap (λ xs. first_at (fault_at image w) xs) is ∙ sym (piece_from image k w (length image.code) 0))

-- ---- the loops

routine_at : (image : RawImage) (rs : List RawRoutine) (r : ℕ) (d : RawRoutine) → rs ≡ image.routines → r < length image.routines → slice_get (image_of image).routines r ≡ Some (routine_of (get_or rs r d))
routine_at image rs r d same low = map_get routine_of image.routines r (get_or rs r d) (slice_get-get_or image.routines r d low ∙ ap (λ xs. Some (get_or xs r d)) (sym same))

-- the piece of a process
pub process_found : (image : RawImage) (n k : ℕ) (p : Process) (o : Option Fault) → n ≡ length image.routines → o ≡ operand_fault_in (image_of image) (n + k) (record { number = n; kind = 1; owner = k; locals = p.locals })
    → o ≡ operand_fault_in (image_of image) (piece_number (image_of image) k) (whose_process (image_of image) k p)
process_found image n k p o long found =
    found ∙ ap (λ m. operand_fault_in (image_of image) (m + k) (record { number = m; kind = 1; owner = k; locals = p.locals })) (long ∙ sym (length-map image.routines routine_of))

-- ---- rows

pub calls_there : (image : RawImage) (calls : List (List ℕ)) (r : ℕ) → AreCalls (image_of image) calls → r < length image.routines → r < length calls
calls_there image calls r are low = omega (arith, low, are.one_each, pieces_long (image_of image), length-map image.routines routine_of)

pub bound_itself : (image : RawImage) (rs : List RawRoutine) (r : ℕ) (d : RawRoutine) (bs : List Bool) → rs ≡ image.routines → r < length image.routines → AreFirstBounds (image_of image) r bs → ((get_or rs r d).kind ≡ 0 → ⊥) → true ≡ bound_at (reach (image_of image)) r
bound_itself image rs r d bs same low rows is_not =
    let row = bound_row (image_of image) r (routine_of (get_or rs r d)) bs (called (image_of image) r) (routine_at image rs r d same low) rows.one_each rows.each refl in
    sym (ap (λ b. not b || some_of (λ j. get_or bs j false) (called (image_of image) r)) (differs (get_or rs r d).kind is_not)) ∙ row
  where
    differs : (n : ℕ) → (n ≡ 0 → ⊥) → nat_eq n 0 ≡ false
    differs n other = grind (arith, nat_tests, other)

pub bound_calls : (image : RawImage) (rs : List RawRoutine) (r : ℕ) (d : RawRoutine) (bs : List Bool) (calls : List ℕ) (b : Bool) → rs ≡ image.routines → r < length image.routines → AreFirstBounds (image_of image) r bs → (get_or rs r d).kind ≡ 0
    → calls ≡ called (image_of image) r → b ≡ some_of (λ j. get_or bs j false) calls → b ≡ bound_at (reach (image_of image)) r
bound_calls image rs r d bs calls b same low rows is_zero are found =
    let row = bound_row (image_of image) r (routine_of (get_or rs r d)) bs calls (routine_at image rs r d same low) rows.one_each rows.each are in
    found ∙ (sym (ap (λ t. not t || some_of (λ j. get_or bs j false) calls) (ap (λ n. nat_eq n 0) is_zero)) ∙ row)

pub one_more_bound : (image : Image) (n : ℕ) (xs ys : List Bool) (x : Bool) → AreFirstBounds image n xs → ys ≡ xs ++ x ∷ [] → x ≡ bound_at (reach image) n → AreFirstBounds image (n + 1) ys
one_more_bound image n xs ys x rows new is = record {
  one_each = ap (λ zs. length zs) new ∙ (length-append xs (x ∷ []) ∙ ap (λ m. m + 1) rows.one_each);
  each = one_more (λ k b. b ≡ bound_at (reach image) k) xs ys x false n rows.one_each new rows.each is;
}
