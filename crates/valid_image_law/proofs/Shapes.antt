-- What the test of shapes tells: where each piece starts, and what its code comes to.
use Rattle.std.proofs.Common.{◌≡◌, ◌<◌, ◌+◌, ◌-◌, inl, inr, ℕ, length, Option, Some, None, arith, refl, ap, sym, subst, ◌∙◌, true}
use Rattle.std.specs.Prelude.{◌&&◌, map, option_map, take, slice_get, nat_eq}
use Rattle.std.proofs.lemmas.Bool.{cases_lt, and_parts, eqb-true}
use Rattle.std.proofs.lemmas.Option.{slice_get_within, slice_get-map}
use Rattle.std.proofs.lemmas.List.{length-map}
use Rattle.base.proofs.Lists.{some_at, append_front, append_back}
use Rattle.machine_semantics.specs.Image.{Image, Routine, Process}
use Rattle.valid_image.specs.Found.{Found}
use Rattle.valid_image.specs.Fault.{or_else, first_of, of_some}
use Rattle.valid_image.specs.Pieces.{Piece, piece_of_routine, piece_of_process, pieces, due_start, piece_number}
use Rattle.valid_image.specs.Shape.{is_found, routine_shape_fault, process_shape_fault, coverage_fault, shape_fault}
use Rattle.valid_image.specs.Tables.{known, routine_found, body_found, handler_found}
use Rattle.valid_image_law.proofs.Firsts.{neither, passed_test, none_of_all}
use Rattle.valid_image_law.proofs.Owners.{Follow}

found_some : (x : Option Found) → is_found x ≡ true → (f : Found) × (x ≡ Some f)
found_some (Some f) is = (f, refl)
found_some None is = absurd cc

pub record RoutineShaped (image : Image) (r : ℕ) (x : Routine) : Type 0 where
  pub starts : x.start ≡ due_start (pieces image) r
  pub f : Found
  pub is : routine_found image.code (take r (known image)) x ≡ Some f

pub record ProcessShaped (image : Image) (k : ℕ) (p : Process) : Type 0 where
  pub starts : p.start ≡ due_start (pieces image) (piece_number image k)
  pub f : Found
  pub body : body_found image p ≡ Some f
  pub g : Found
  pub handler : handler_found image p p.handler_tree ≡ Some g

pub piece_routine : (image : Image) (r : ℕ) (x : Routine) → slice_get image.routines r ≡ Some x → slice_get (pieces image) r ≡ Some (piece_of_routine x)
piece_routine image r x at =
    let low : r < length (map piece_of_routine image.routines) = omega (arith, slice_get_within image.routines r x at, length-map image.routines piece_of_routine) in
    append_front (map piece_of_routine image.routines) (map piece_of_process image.processes) r low
    ∙ (slice_get-map piece_of_routine image.routines r ∙ ap (λ o. option_map piece_of_routine o) at)

pub piece_process : (image : Image) (k : ℕ) (p : Process) → slice_get image.processes k ≡ Some p → slice_get (pieces image) (piece_number image k) ≡ Some (piece_of_process p)
piece_process image k p at =
    append_back (map piece_of_routine image.routines) (map piece_of_process image.processes) (length image.routines + k) k (omega (arith, length-map image.routines piece_of_routine))
    ∙ (slice_get-map piece_of_process image.processes k ∙ ap (λ o. option_map piece_of_process o) at)

-- a piece is that of a routine or of a process
one_or_other : (image : Image) (P : ℕ → Piece → Type 0) → ((r : ℕ) (x : Routine) → slice_get image.routines r ≡ Some x → P r (piece_of_routine x))
    → ((k : ℕ) (p : Process) → slice_get image.processes k ≡ Some p → P (piece_number image k) (piece_of_process p)) → (j : ℕ) (x : Piece) → slice_get (pieces image) j ≡ Some x → P j x
one_or_other image P of_routine of_process j x at = elim (cases_lt j (length image.routines)) [
  | inl low ↦
      let r : (y : Routine) × (slice_get image.routines j ≡ Some y) = some_at image.routines j low in
      let same : piece_of_routine r.0 ≡ x = (let e : Some (piece_of_routine r.0) ≡ Some x = sym (piece_routine image j r.0 r.1) ∙ at in cc) in
      subst (λ y. P j y) same (of_routine j r.0 r.1)
  | inr high ↦
      let k : ℕ = j - length image.routines in
      let is : length image.routines + k ≡ j = omega (arith, high) in
      let back : slice_get (pieces image) j ≡ slice_get (map piece_of_process image.processes) k = append_back (map piece_of_routine image.routines) (map piece_of_process image.processes) j k (omega (arith, is, length-map image.routines piece_of_routine)) in
      let within : k < length image.processes = omega (arith, slice_get_within (map piece_of_process image.processes) k x (sym back ∙ at), length-map image.processes piece_of_process) in
      let p : (y : Process) × (slice_get image.processes k ≡ Some y) = some_at image.processes k within in
      let same : piece_of_process p.0 ≡ x = (let e : Some (piece_of_process p.0) ≡ Some x = sym (piece_process image k p.0 p.1) ∙ (ap (λ n. slice_get (pieces image) n) is ∙ at) in cc) in
      subst (λ y. P j y) same (subst (λ n. P n (piece_of_process p.0)) is (of_process k p.0 p.1))
]

module _ (image : Image) (none : shape_fault image ≡ None) where
  pub routine_shaped : (r : ℕ) (x : Routine) → slice_get image.routines r ≡ Some x → RoutineShaped image r x
  routine_shaped r x at =
      let p = neither (first_of (λ r. of_some (routine_shape_fault image r) (slice_get image.routines r)) (length image.routines) 0) (or_else (first_of (λ k. of_some (process_shape_fault image k) (slice_get image.processes k)) (length image.processes) 0) (coverage_fault image)) none in
      let t = passed_test (nat_eq x.start (due_start (pieces image) r) && is_found (routine_found image.code (take r (known image)) x)) x.start 0 (none_of_all (routine_shape_fault image) image.routines p.0 r x at) in
      let b = and_parts (nat_eq x.start (due_start (pieces image) r)) (is_found (routine_found image.code (take r (known image)) x)) t in
      let f = found_some (routine_found image.code (take r (known image)) x) b.1 in
      record { starts = eqb-true x.start (due_start (pieces image) r) b.0; f = f.0; is = f.1 }

  pub process_shaped : (k : ℕ) (p : Process) → slice_get image.processes k ≡ Some p → ProcessShaped image k p
  process_shaped k x at =
      let p = neither (first_of (λ r. of_some (routine_shape_fault image r) (slice_get image.routines r)) (length image.routines) 0) (or_else (first_of (λ k. of_some (process_shape_fault image k) (slice_get image.processes k)) (length image.processes) 0) (coverage_fault image)) none in
      let q = neither (first_of (λ k. of_some (process_shape_fault image k) (slice_get image.processes k)) (length image.processes) 0) (coverage_fault image) p.1 in
      let due = due_start (pieces image) (piece_number image k) in
      let shapes = is_found (body_found image x) && is_found (handler_found image x x.handler_tree) in
      let t = passed_test (nat_eq x.start due && shapes) x.start 0 (none_of_all (process_shape_fault image) image.processes q.0 k x at) in
      let b = and_parts (nat_eq x.start due) shapes t in
      let c = and_parts (is_found (body_found image x)) (is_found (handler_found image x x.handler_tree)) b.1 in
      let f = found_some (body_found image x) c.0 in
      let g = found_some (handler_found image x x.handler_tree) c.1 in
      record { starts = eqb-true x.start due b.0; f = f.0; body = f.1; g = g.0; handler = g.1 }

  pub follow : Follow (pieces image)
  follow j x at = one_or_other image (λ n y. y.start ≡ due_start (pieces image) n) (λ r y there. (routine_shaped r y there).starts) (λ k p there. (process_shaped k p there).starts) j x at
