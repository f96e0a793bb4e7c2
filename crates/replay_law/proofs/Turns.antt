-- Each loop of a valid image has at most 1,000,000 turns.
use Rattle.std.proofs.Common.{◌≡◌, ◌≤◌, ◌<◌, ◌+◌, ◌-◌, inl, inr, ℕ, pos, true, length, Some, arith, subst}
use Rattle.std.specs.Prelude.{None, nat_le, map, slice_get}
use Rattle.std.proofs.lemmas.Bool.{and_parts, cases_lt, leb-true}
use Rattle.std.proofs.lemmas.List.{length-append, length-map}
use Rattle.std.proofs.lemmas.Option.{slice_get_within}
use Rattle.base.proofs.Lists.{some_at}
use Rattle.machine_isa.specs.declared.instr.Instr.TheVariants as i
use Rattle.machine_semantics.specs.Image.{Image}
use Rattle.valid_image.specs.Operands.{Whose, bad_operand, is_between, whose_process, whose_routine}
use Rattle.valid_image.specs.Pieces.{belongs, piece_number, piece_of_process, piece_of_routine, pieces}
use Rattle.valid_image.specs.Valid.{Operands, Shape, fault_of_part}
use Rattle.valid_image_law.proofs.Owners.{owned}
use Rattle.valid_image_law.proofs.Passing.{process_operands, routine_operands}
use Rattle.valid_image_law.proofs.Shapes.{follow}
use Rattle.valid_image_law.proofs.Standing.{no_bad}
use Rattle.vm_law.proofs.Covered.{Has, all_covered, covered}

few : (image : Image) (w : Whose) (n : ℕ) → bad_operand image w (i.Repeats (pos n)) ≡ None → n ≤ 1000000
few image w n none = leb-true n 1000000 (and_parts (nat_le 1 n) (nat_le n 1000000) (no_bad (is_between 1 1000000 (pos n)) (pos n) none)).1

module _ (image : Image) (operands : fault_of_part image Operands ≡ None) (shape : fault_of_part image Shape ≡ None) where
  pieces_count : length (pieces image) ≡ length image.routines + length image.processes
  pieces_count =
      omega (arith, length-append (map piece_of_routine image.routines) (map piece_of_process image.processes), length-map image.routines piece_of_routine, length-map image.processes piece_of_process)

  in_piece : (k a n : ℕ) → k < length (pieces image) → belongs image k a ≡ true → slice_get image.code a ≡ Some (i.Repeats (pos n)) → n ≤ 1000000
  in_piece k a n low own here = elim (cases_lt k (length image.routines)) [
    | inl routine ↦ (let x = some_at image.routines k routine in few image (whose_routine k x.0) n (routine_operands image operands k x.0 x.1 a (i.Repeats (pos n)) own here))
    | inr process ↦
        let j : ℕ = k - length image.routines in
        let same : k ≡ piece_number image j = omega (arith, process) in
        let p = some_at image.processes j (omega (arith, low, process, pieces_count)) in
        few image (whose_process image j p.0) n (process_operands image operands j p.0 p.1 a (i.Repeats (pos n)) (subst (λ m. belongs image m a ≡ true) same own) here)
  ]

  pub few_turns : (a n : ℕ) → slice_get image.code a ≡ Some (i.Repeats (pos n)) → n ≤ 1000000
  few_turns a n here =
      let within : a < length image.code = slice_get_within image.code a (i.Repeats (pos n)) here in
      let has : Has (pieces image) a = covered (pieces image) (length (pieces image)) a (follow image shape) (omega (arith, within, all_covered image shape)) in
      in_piece has.k a n (slice_get_within (pieces image) has.k has.piece has.at) (owned image has.k a has.piece (follow image shape) has.at has.from has.to) here
