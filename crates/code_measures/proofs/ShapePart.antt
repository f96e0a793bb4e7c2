-- The code is of its trees, the parts follow one another, and they cover the code.
use Rattle.std.specs.Prelude.{◌≡◌, ◌+◌, ◌++◌, ℕ, zero, suc, true, List, [], ◌∷◌, length, map, Some, None, take, slice_get}
use Rattle.std.proofs.Common.{refl, sym, ap, subst, ◌∙◌, arith}
use Rattle.std.proofs.lemmas.Option.{slice_get_within}
use Rattle.std.proofs.lemmas.List.{length-map}
use Rattle.std.proofs.lemmas.Bool.{and_from, eq-eqb}
use Rattle.base.proofs.Lists.{map_get, append_front, append_back}
use Rattle.syntax_tree.specs.Plain.{Process, Program}
use Rattle.source_semantics.specs.Names.{processes}
use Rattle.machine_isa.specs.declared.instr.Instr.{Instr}
use Rattle.machine_semantics.specs.Image as image
use Rattle.machine_semantics.specs.Trees.{size}
use Rattle.valid_image.specs.Fault.{unless}
use Rattle.valid_image.specs.Pieces.{Piece, end_of_piece, handler_length, piece_of_routine, piece_of_process, pieces, due_start, piece_number}
use Rattle.valid_image.specs.Tables.{known, routine_found}
use Rattle.valid_image.specs.Shape.{is_found, routine_shape_fault, process_shape_fault, coverage_fault, shape_fault}
use Rattle.code_spec.specs.Numbering.{Text, numbered}
use Rattle.code_spec.specs.Compiled.{IsRoutine, EmitsRoutine, EmitsRoutines, EmitsProcess, EmitsProcesses, IsCodeOf}
use Rattle.code_measures.specs.Sound.{IsKnown}
use Rattle.code_measures.proofs.Parts.{routines_are_measured, processes_are_measured}
use Rattle.code_measures.specs.Declared.{IsBelow, IsSound, Declares, declared_calls}
use Rattle.code_measures.proofs.Maps.{map_routine, map_process}
use Rattle.code_measures.proofs.Rows.{routine, row, known_before}
use Rattle.code_measures.proofs.Bodies.{text_at, body, known_all, handler_same}
use Rattle.code_measures.proofs.CostPart.{none_all, both_none}

-- pieces from p to q, one after the other
abbrev Follow : ℕ → List Piece → ℕ → Type 0
Follow p [] q = q ≡ p
Follow p (y ∷ ys) q = (y.start ≡ p) × Follow (y.start + y.length) ys q

follow_joined : (p mid q : ℕ) (xs ys : List Piece) → Follow p xs mid → Follow mid ys q → Follow p (xs ++ ys) q
follow_joined p mid q [] ys h j = subst (λ a. Follow a ys q) h j
follow_joined p mid q (x ∷ xs) ys h j = (h.0, follow_joined (x.start + x.length) mid q xs ys h.1 j)

abbrev due : ℕ → List Piece → ℕ → ℕ
due p ps zero = p
due p ps (suc k) = end_of_piece (slice_get ps k)

due_further : (y : Piece) (ys : List Piece) (p k : ℕ) → due (y.start + y.length) ys k ≡ due p (y ∷ ys) (suc k)
due_further y ys p zero = refl
due_further y ys p (suc k) = refl

follow_due : (p q : ℕ) (ps : List Piece) (k : ℕ) (x : Piece) → Follow p ps q → slice_get ps k ≡ Some x → x.start ≡ due p ps k
follow_due p q [] k x h at = absurd cc
follow_due p q (y ∷ ys) zero x h at = let same : y ≡ x = cc in subst (λ z. z.start ≡ p) same h.0
follow_due p q (y ∷ ys) (suc k) x h at = follow_due (y.start + y.length) q ys k x h.1 at ∙ due_further y ys p k

follow_end : (p q : ℕ) (ps : List Piece) → Follow p ps q → due p ps (length ps) ≡ q
follow_end p q [] h = sym h
follow_end p q (y ∷ ys) h = sym (due_further y ys p (length ys)) ∙ follow_end (y.start + y.length) q ys h.1

due_same : (ps : List Piece) (k : ℕ) → due 0 ps k ≡ due_start ps k
due_same ps zero = refl
due_same ps (suc k) = refl

-- ---- the pieces of an image

routine_piece : (m : image.Image) (r : ℕ) (x : image.Routine) → slice_get m.routines r ≡ Some x → slice_get (pieces m) r ≡ Some (piece_of_routine x)
routine_piece m r x at =
    append_front (map piece_of_routine m.routines) (map piece_of_process m.processes) r (omega (arith, slice_get_within m.routines r x at, length-map m.routines piece_of_routine)) ∙ map_get piece_of_routine m.routines r x at

process_piece : (m : image.Image) (k : ℕ) (x : image.Process) → slice_get m.processes k ≡ Some x → slice_get (pieces m) (piece_number m k) ≡ Some (piece_of_process x)
process_piece m k x at =
    append_back (map piece_of_routine m.routines) (map piece_of_process m.processes) (length m.routines + k) k (omega (arith, length-map m.routines piece_of_routine)) ∙ map_get piece_of_process m.processes k x at

routines_follow : (g : Program) (code : List Instr) (p q : ℕ) (ts : List Text) (rs : List image.Routine) → EmitsRoutines g code p q ts rs
    → ((r : ℕ) (t : Text) (x : image.Routine) (next : ℕ) → slice_get ts r ≡ Some t → slice_get rs r ≡ Some x → IsRoutine g t x → EmitsRoutine g code t x.start next → next ≡ x.start + (size x.tree + 1)) → Follow p (map piece_of_routine rs) q
routines_follow g code p q [] [] h ends = h
routines_follow g code p q [] (y ∷ ys) h ends = absurd h
routines_follow g code p q (u ∷ us) [] h ends = absurd h
routines_follow g code p q (u ∷ us) (y ∷ ys) h ends = (
  h.2,
  subst (λ a. Follow a (map piece_of_routine ys) q) (ends 0 u y h.0 refl refl h.1 (subst (λ a. EmitsRoutine g code u a h.0) (sym h.2) h.3))
      (routines_follow g code h.0 q us ys h.4 (λ r t x next at there is_r emits. ends (suc r) t x next at there is_r emits)),
)

processes_follow : (g : Program) (code : List Instr) (k p q : ℕ) (ts : List Process) (rs : List image.Process) → EmitsProcesses g code k p q ts rs
    → ((r : ℕ) (t : Process) (x : image.Process) (next : ℕ) → slice_get ts r ≡ Some t → slice_get rs r ≡ Some x → EmitsProcess g code (k + r) t x.start next x → next ≡ x.start + (size x.body + 1 + handler_length x.handler_tree))
    → Follow p (map piece_of_process rs) q
processes_follow g code k p q [] [] h ends = h
processes_follow g code k p q [] (y ∷ ys) h ends = absurd h
processes_follow g code k p q (u ∷ us) [] h ends = absurd h
processes_follow g code k p q (u ∷ us) (y ∷ ys) h ends = (
  h.1.start,
  subst (λ a. Follow a (map piece_of_process ys) q) (ends 0 u y h.0 refl refl (subst (λ j. EmitsProcess g code j u y.start h.0 y) (flat k) (subst (λ a. EmitsProcess g code k u a h.0 y) (sym h.1.start) h.1)))
      (processes_follow g code (suc k) h.0 q us ys h.2 (λ r t x next at there emits. ends (suc r) t x next at there (subst (λ j. EmitsProcess g code j t x.start next x) (further k r) emits))),
)
  where
    flat : (k : ℕ) → k ≡ k + 0
    flat k = omega arith

    further : (k r : ℕ) → suc k + r ≡ k + suc r
    further k r = omega arith

module _ (g : Program) (m : image.Image) (is : IsCodeOf g m) (sound : IsSound g) (declares : Declares g m) where
  all_follow : Follow 0 (pieces m) (length m.code)
  all_follow =
      follow_joined 0 is.between (length m.code) (map piece_of_routine m.routines) (map piece_of_process m.processes)
      (routines_follow g m.code 0 is.between (numbered g) m.routines is.routine_code
      (λ r t x next at there is_r emits. (routines_are_measured g m.code (take r (known m)) (declared_calls g) t x next is_r emits
      (map_routine g (λ y. IsBelow g r y) (λ y. IsKnown g (take r (known m)) (declared_calls g) y) (λ u low. known_before g m is sound declares r (λ q v less here. row g m is sound declares q v here) u low) t (sound.routines r t at))).end))
      (processes_follow g m.code 0 is.between (length m.code) (processes g) m.processes is.process_code
      (λ r t x next at there emits. (processes_are_measured g m.code (known m) (declared_calls g) r t x next (subst (λ j. EmitsProcess g m.code j t x.start next x) (plain r) emits)
      (map_process g (λ y. IsBelow g (length (numbered g)) y) (λ y. IsKnown g (known m) (declared_calls g) y) (λ u low. known_all g m is sound declares u low) r t (sound.bodies r t at))).end))
    where
      plain : (k : ℕ) → 0 + k ≡ k
      plain k = omega arith

  routine_stands : (r : ℕ) (x : image.Routine) → slice_get m.routines r ≡ Some x → routine_shape_fault m r x ≡ None
  routine_stands r x at =
      let t = text_at g m.code 0 is.between (numbered g) m.routines r x is.routine_code at in
      let i = routine g m is sound declares r t.0 t.1 in
      let same_x : i.stand.x ≡ x = (let e : Some i.stand.x ≡ Some x = sym i.stand.there ∙ at in cc) in
      ap (λ b. unless b x.start 0)
      (and_from _ _ (eq-eqb x.start (due_start (pieces m) r) (follow_due 0 (length m.code) (pieces m) r (piece_of_routine x) all_follow (routine_piece m r x at) ∙ due_same (pieces m) r))
      (subst (λ y. is_found (routine_found m.code (take r (known m)) y) ≡ true) same_x (ap (λ o. is_found o) i.measured.is)))

  process_stands : (k : ℕ) (x : image.Process) → slice_get m.processes k ≡ Some x → process_shape_fault m k x ≡ None
  process_stands k x at =
      let b = body g m is sound declares k x at in
      ap (λ y. unless y x.start 0)
      (and_from _ _ (eq-eqb x.start (due_start (pieces m) (piece_number m k)) (follow_due 0 (length m.code) (pieces m) (piece_number m k) (piece_of_process x) all_follow (process_piece m k x at) ∙ due_same (pieces m) (piece_number m k)))
      (and_from _ _ (ap (λ o. is_found o) b.measured.body_is) (ap (λ o. is_found o) (handler_same g m is sound declares x x.handler_tree ∙ b.measured.handler_is))))

  covered : coverage_fault m ≡ None
  covered = ap (λ b. unless b (due_start (pieces m) (length (pieces m))) 0) (eq-eqb _ _ (sym (due_same (pieces m) (length (pieces m))) ∙ follow_end 0 (length m.code) (pieces m) all_follow))

  -- the code is of its trees
  pub no_shape_fault : shape_fault m ≡ None
  no_shape_fault = both_none _ _ (none_all (routine_shape_fault m) m.routines (λ j x at. routine_stands j x at)) (both_none _ _ (none_all (process_shape_fault m) m.processes (λ j x at. process_stands j x at)) covered)
