-- The operands of each instruction of a valid image are there.
use Rattle.std.proofs.Common.{◌≡◌, ◌≤◌, ◌<◌, ◌+◌, ◌-◌, inl, inr, ℕ, suc, length, Option, Some, None, arith, refl, ap, sym, subst, ◌∙◌, true, false}
use Rattle.std.specs.Prelude.{ℤ, pos, negsuc, ◌&&◌, ◌||◌, nat_eq, nat_le, slice_get, map}
use Rattle.std.proofs.lemmas.Bool.{cases_lt, and_parts, or_cases, eqb-true, leb-true}
use Rattle.std.proofs.lemmas.List.{length-map, length-append}
use Rattle.std.proofs.lemmas.Option.{slice_get_within}
use Rattle.base.proofs.Lists.{some_at}
use Rattle.machine_isa.specs.declared.instr.Instr.{Instr}
use Rattle.machine_isa.specs.declared.instr.Instr.TheVariants as i
use Rattle.machine_semantics.specs.Image.{Image, Routine, Process}
use Rattle.machine_semantics.specs.Part.{IsBelow}
use Rattle.valid_image.specs.Fault.{or_else}
use Rattle.valid_image.specs.Pieces.{piece_of_routine, piece_of_process, pieces, belongs, piece_number}
use Rattle.valid_image.specs.Operands.{Whose, whose_routine, whose_process, is_between, is_own_monitor, is_same, is_own_condition, bad, is_user_number, bad_operand}
use Rattle.valid_image.specs.Valid.{HasOwner, Operands, Shape, fault_of_part}
use Rattle.valid_image_law.proofs.Firsts.{neither}
use Rattle.valid_image_law.proofs.Owners.{owned}
use Rattle.valid_image_law.proofs.Passing.{routine_operands, process_operands}
use Rattle.valid_image_law.proofs.Shapes.{follow}
use Rattle.vm_law.specs.Operands.{IsThere, AreThere, ValidOperandsAreThere}
use Rattle.vm_law.proofs.Covered.{Has, covered, all_covered}
use Rattle.valid_image_law.proofs.Standing.{condition_below, device_below, no_bad}

-- ---- one operand

monitor_below : (w : Whose) (n : ℕ) (z : ℤ) → (w.kind ≡ 2 → w.owner < n) → bad (is_own_monitor w z) z ≡ None → IsBelow z n
monitor_below w n (pos m) owner fine =
    let t = and_parts (nat_eq w.kind 2) (nat_eq m w.owner) (no_bad (is_own_monitor w (pos m)) (pos m) fine) in
    let low : w.owner < n = owner (eqb-true w.kind 2 t.0) in
    (m, refl, omega (arith, low, eqb-true m w.owner t.1))
monitor_below w n (negsuc m) owner fine = absurd cc

some_same : (n : ℕ) (o : Option ℕ) → is_same n o ≡ true → (m : ℕ) × (o ≡ Some m)
some_same n (Some m) is = (m, refl)
some_same n None is = absurd cc

between_below : (low high n : ℕ) (z : ℤ) → high < n → is_between low high z ≡ true → IsBelow z n
between_below low high n (pos k) above is =
    let t = and_parts (nat_le low k) (nat_le k high) is in
    (k, refl, omega (arith, above, leb-true k high t.1))
between_below low high n (negsuc k) above is = absurd cc

raised_below : (z : ℤ) → bad (is_between 4 4 z || is_user_number z) z ≡ None → IsBelow z 1000
raised_below z fine = elim (or_cases (is_between 4 4 z) (is_user_number z) (no_bad (is_between 4 4 z || is_user_number z) z fine)) [
  | inl four ↦ between_below 4 4 1000 z (omega arith) four
  | inr own ↦ between_below 10 999 1000 z (omega arith) own
]

-- ---- one instruction

module _ (image : Image) (w : Whose) (owner : w.kind ≡ 2 → w.owner < length image.monitors) where
  pub there : (instr : Instr) → bad_operand image w instr ≡ None → IsThere image instr
  there (i.Enter m) fine = monitor_below w (length image.monitors) m owner fine
  there (i.Leave m) fine = monitor_below w (length image.monitors) m owner fine
  there (i.Reenter m) fine = monitor_below w (length image.monitors) m owner fine
  there (i.Wait c limit number) fine =
      let p = neither (bad (is_own_condition image w c) c) (or_else (bad (is_between 1 1000000000 limit) limit) (bad (is_user_number number) number)) fine in
      let q = neither (bad (is_between 1 1000000000 limit) limit) (bad (is_user_number number) number) p.1 in (
        condition_below image w c p.0,
        between_below 1 1000000000 1000000001 limit (omega arith) (no_bad (is_between 1 1000000000 limit) limit q.0),
        between_below 10 999 1000 number (omega arith) (no_bad (is_user_number number) number q.1),
      )
  there (i.Signal c) fine = condition_below image w c fine
  there (i.Broadcast c) fine = condition_below image w c fine
  there (i.Empty c) fine = condition_below image w c fine
  there (i.In d) fine = device_below image false d fine
  there (i.Out d) fine = device_below image true d fine
  there (i.Raise number) fine = raised_below number fine
  there _ fine = tt

-- ---- all

-- where no operand is out of range, and the pieces are the code
module _ (image : Image) (owners : (r : ℕ) (x : Routine) → slice_get image.routines r ≡ Some x → HasOwner image x) (operands : fault_of_part image Operands ≡ None) (shape : fault_of_part image Shape ≡ None) where
  in_routine : (r a : ℕ) (x : Routine) (instr : Instr) → slice_get image.routines r ≡ Some x → belongs image r a ≡ true → slice_get image.code a ≡ Some instr → IsThere image instr
  in_routine r a x instr at own here =
      there image (whose_routine r x) (λ entry. let m = owners r x at entry in slice_get_within image.monitors x.owner m.0 m.1) instr
      (routine_operands image operands r x at a instr own here)

  in_process : (k a : ℕ) (p : Process) (instr : Instr) → slice_get image.processes k ≡ Some p → belongs image (piece_number image k) a ≡ true → slice_get image.code a ≡ Some instr → IsThere image instr
  in_process k a p instr at own here =
      there image (whose_process image k p) (λ entry. absurd (omega (arith, entry))) instr (process_operands image operands k p at a instr own here)

  pieces_count : length (pieces image) ≡ length image.routines + length image.processes
  pieces_count =
      length-append (map piece_of_routine image.routines) (map piece_of_process image.processes)
      ∙ (ap (λ n. n + length (map piece_of_process image.processes)) (length-map image.routines piece_of_routine) ∙ ap (λ n. length image.routines + n) (length-map image.processes piece_of_process))

  in_piece : (k a : ℕ) (instr : Instr) → k < length (pieces image) → belongs image k a ≡ true → slice_get image.code a ≡ Some instr → IsThere image instr
  in_piece k a instr low own here = elim (cases_lt k (length image.routines)) [
    | inl routine ↦ (let x = some_at image.routines k routine in in_routine k a x.0 instr x.1 own here)
    | inr process ↦
        let j : ℕ = k - length image.routines in
        let same : k ≡ piece_number image j = omega (arith, process) in
        let p = some_at image.processes j (omega (arith, low, process, pieces_count)) in
        in_process j a p.0 instr p.1 (subst (λ n. belongs image n a ≡ true) same own) here
  ]

  pub all_there : AreThere image
  all_there a instr here =
      let within : a < length image.code = slice_get_within image.code a instr here in
      let has : Has (pieces image) a = covered (pieces image) (length (pieces image)) a (follow image shape) (omega (arith, within, all_covered image shape)) in
      in_piece has.k a instr (slice_get_within (pieces image) has.k has.piece has.at) (owned image has.k a has.piece (follow image shape) has.at has.from has.to) here

pub valid_operands_are_there : ValidOperandsAreThere
valid_operands_are_there image limits valid = all_there image limits.owners (valid Operands) (valid Shape)
