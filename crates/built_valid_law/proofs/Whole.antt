-- No operand of the image is out of range.
use Rattle.std.specs.Prelude.{◌≡◌, ◌≤◌, ◌<◌, ℕ, Bool, true, false, cond, length, Option, Some, None, slice_get}
use Rattle.std.proofs.Common.{refl, sym, ap, subst, ◌∙◌, arith}
use Rattle.syntax_tree.specs.Plain.{Routine, Process, Handler, Program}
use Rattle.source_semantics.specs.Names.{processes}
use Rattle.machine_isa.specs.declared.instr.Instr.{Instr}
use Rattle.machine_semantics.specs.Image as image
use Rattle.valid_image.specs.Fault.{of_some}
use Rattle.valid_image.specs.Pieces.{belongs, piece_number}
use Rattle.valid_image.specs.Tables.{reach, bound_at}
use Rattle.valid_image.specs.Operands.{Whose, whose_routine, whose_process, bad_operand, shown_operand, operand_fault_at, operand_fault_in}
use Rattle.code_spec.specs.Layout.{Owner, by_program, by_process, by_monitor, routine_words, frame_words}
use Rattle.code_spec.specs.Numbering.{Text, Called, called_text, numbered, number_of}
use Rattle.code_spec.specs.Compiled.{kind_number, owner_number, process_scope, IsRoutine, IsCodeOf}
use Rattle.static_semantics.specs.WellFormed.{OptionalFits, ProcessFits, IsWellFormed}
use Rattle.codegen_law.proofs.NameNumbers.{IsText}
use Rattle.codegen_law.specs.Ruled.{NamesApart}
use Rattle.codegen_law.specs.Numbered.{CallsText}
use Rattle.codegen_law.proofs.NumberedLemmas.{listed_text}
use Rattle.code_measures.specs.Sound.{SoundHandler}
use Rattle.code_measures.specs.Declared.{IsBelow}
use Rattle.code_measures.proofs.Rows.{stands}
use Rattle.code_measures.proofs.Bodies.{text_at}
use Rattle.code_measures.proofs.CostPart.{none_first, none_all, both_none}
use Rattle.codegen_law.proofs.Owners.{Listed, of_the_program, of_a_process, of_a_monitor, is_listed, process_fits, text_stands}
use Rattle.codegen_law.proofs.SoundLemmas.{are_numbered, text_sound, part_sound, below, below_all}
use Rattle.built_valid_law.specs.Areas.{DevicesGoOneWay}
use Rattle.built_valid_law.specs.Has.{RoutineHas, ProcessHas}
use Rattle.built_valid_law.specs.Kept.{PieceKeeps}
use Rattle.built_valid_law.proofs.Owning.{routines_counted}
use Rattle.built_valid_law.proofs.EmittedLemmas.{routine_piece_keeps, process_piece_keeps, same_some}
use Rattle.built_valid_law.specs.Fine.{IsFine, MayCall, Stands}
use Rattle.built_valid_law.proofs.Texts.{routines_are_fine, processes_are_fine}
use Rattle.built_valid_law.specs.InRange.{OperandsAreInRange}
use Rattle.built_valid_law.proofs.Standing.{made, text_there, program_stands, process_stands, monitor_stands}
use Rattle.built_valid_law.proofs.Calls.{IsMine, called_ok, calls_functions}
use Rattle.built_valid_law.proofs.Unbound.{unbound}

-- no instruction of a piece has a fault
piece_none : (m : image.Image) (k : ℕ) (w : Whose) → PieceKeeps m (IsFine m w) k → operand_fault_in m k w ≡ None
piece_none m k w keeps = none_first (operand_fault_at m k w) (length m.code) 0 (λ a. by a (belongs m k a) refl)
  where
    there : (a : ℕ) (o : Option Instr) → slice_get m.code a ≡ o → belongs m k a ≡ true → of_some (λ i. shown_operand a (bad_operand m w i)) o ≡ None
    there a None is mine = refl
    there a (Some j) is mine = ap (λ z. shown_operand a z) (keeps a j mine is)

    by : (a : ℕ) (b : Bool) → belongs m k a ≡ b → cond b (of_some (λ i. shown_operand a (bad_operand m w i)) (slice_get m.code a)) None ≡ None
    by a true mine = there a (slice_get m.code a) refl mine
    by a false mine = refl

room : (a b : ℕ) → a ≡ b → b ≤ a
room a b e = omega (arith, e)

owned_kind : (w : Whose) (o : Owner) → w.kind ≡ kind_number o → w.owner ≡ owner_number o → IsMine w o
owned_kind w o kind owner k e = (kind ∙ ap (λ y. kind_number y) e, owner ∙ ap (λ y. owner_number y) e)

module _ (g : Program) (m : image.Image) (form : IsWellFormed g) (names : NamesApart g) (one : DevicesGoOneWay g) (is : IsCodeOf g m) where
  -- ---- routines

  text_stood : (w : Whose) (o : Owner) (r : Routine) → Listed g r o → w.kind ≡ kind_number o → w.owner ≡ owner_number o → Stands g m w o
  text_stood w _ r (of_the_program f) kind owner = program_stands g m form names one is w
  text_stood w _ r (of_a_process k p at f) kind owner = process_stands g m form names one is w k p kind owner at
  text_stood w _ r (of_a_monitor j d at f) kind owner = monitor_stands g m form names one is w j d kind owner at

  -- an entry calls functions of the program alone
  free_below : (o : Owner) (r : Routine) (n : ℕ) → IsText g (record { owner = o; routine = r }) → kind_number o ≡ 2 → (v : Text) → CallsText g (record { owner = o; routine = r }) v → IsBelow g n v → bound_at (reach m) (number_of g v) ≡ false
  free_below by_program r n text kind v called b = absurd (omega (arith, kind))
  free_below (by_process k) r n text kind v called b = absurd (omega (arith, kind))
  free_below (by_monitor j) r n text kind v called b =
      unbound g m form names one is n (number_of g v) v b.low b.there (calls_functions g form names (by_monitor j) r text tt (λ p. refl) v called)

  routine_has : (n : ℕ) (t : Text) (x : image.Routine) → slice_get (numbered g) n ≡ Some t → slice_get m.routines n ≡ Some x → IsRoutine g t x → RoutineHas (IsFine m (whose_routine n x)) g t
  routine_has n t x at there is_r =
      let w : Whose = whose_routine n x in
      let text : IsText g t = listed_text g names.differ t ((are_numbered g form names).listed n t at) in
      let stood = text_stands g form names t.owner t.routine text in
      routines_are_fine g m w stood.process t (text_stood w t.owner t.routine (is_listed g t.owner t.routine text) is_r.kind is_r.owner) (room x.locals (routine_words g t.routine) is_r.locals)
      (text_sound g form names (MayCall g m w) t.owner t.routine text
      (λ v called.
      let b : IsBelow g n v = below g form names n t v at called in
      called_ok g m form names is w t.owner called.call v called.means (owned_kind w t.owner is_r.kind is_r.owner) b.low (λ entry. free_below t.owner t.routine n text (sym is_r.kind ∙ entry) v called b)))
      stood.fits

  routine_none : (n : ℕ) (x : image.Routine) → slice_get m.routines n ≡ Some x → operand_fault_in m n (whose_routine n x) ≡ None
  routine_none n x there =
      let t = text_at g m.code 0 is.between (numbered g) m.routines n x is.routine_code there in
      let s = stands g m is n t.0 t.1 in
      let is_r : IsRoutine g t.0 x = subst (λ y. IsRoutine g t.0 y) (same_some s.x x (slice_get m.routines n) s.there there) s.is_r in
      piece_none m n (whose_routine n x) (routine_piece_keeps (IsFine m (whose_routine n x)) g m is n t.0 t.1 (routine_has n t.0 x t.1 there is_r))

  -- ---- processes

  counted : length m.routines ≡ length (numbered g)
  counted = routines_counted g m.code 0 is.between (numbered g) m.routines is.routine_code

  process_may : (k : ℕ) (ip : image.Process) (c : Called) (v : Text) → called_text g (by_process k) c ≡ Some v → MayCall g m (whose_process m k ip) v
  process_may k ip c v e =
      let b : IsBelow g (length (numbered g)) v = below_all g form names (by_process k) c v e in
      called_ok g m form names is (whose_process m k ip) (by_process k) c v e (owned_kind (whose_process m k ip) (by_process k) refl refl)
      (lower (number_of g v) (length (numbered g)) (length m.routines) b.low counted) (λ entry. absurd (omega (arith, entry)))
    where
      lower : (a n k : ℕ) → a < n → k ≡ n → a < k
      lower a n k lt e = omega (arith, lt, e)

  handler_sound : (k : ℕ) (p : Process) (ip : image.Process) → slice_get (processes g) k ≡ Some p → (h : Option Handler) → OptionalFits g p h → SoundHandler g (MayCall g m (whose_process m k ip)) (process_scope g k p) h
  handler_sound k p ip at None fit = tt
  handler_sound k p ip at (Some h) fit = part_sound g form names (MayCall g m (whose_process m k ip)) k p at h.body fit.body (λ c v i e. process_may k ip c v e)

  process_has : (k : ℕ) (p : Process) (ip : image.Process) → slice_get (processes g) k ≡ Some p → ip.locals ≡ frame_words p → ProcessHas (IsFine m (whose_process m k ip)) g k p
  process_has k p ip at locals =
      let fits : ProcessFits g p = process_fits g form names k p at in
      processes_are_fine g m (whose_process m k ip) k p (process_stands g m form names one is (whose_process m k ip) k p refl refl at) (room ip.locals (frame_words p) locals)
      (part_sound g form names (MayCall g m (whose_process m k ip)) k p at p.body fits.body (λ c v i e. process_may k ip c v e), handler_sound k p ip at p.handler fits.handler) fits

  process_none : (k : ℕ) (ip : image.Process) → slice_get m.processes k ≡ Some ip → operand_fault_in m (piece_number m k) (whose_process m k ip) ≡ None
  process_none k ip there =
      let t = text_there g m is k ip there in
      let b = made g m is k t.0 t.1 in
      let locals : ip.locals ≡ frame_words t.0 = ap (λ y. y.locals) (same_some ip b.process (slice_get m.processes k) there b.there) ∙ b.emits.locals in
      piece_none m (piece_number m k) (whose_process m k ip)
      (process_piece_keeps (IsFine m (whose_process m k ip)) g m is k t.0 ip t.1 there (process_has k t.0 ip t.1 locals))

pub operands_are_in_range : OperandsAreInRange
operands_are_in_range g m form names one is =
    both_none _ _ (none_all (λ n x. operand_fault_in m n (whose_routine n x)) m.routines (λ n x at. routine_none g m form names one is n x at))
    (none_all (λ k p. operand_fault_in m (piece_number m k) (whose_process m k p)) m.processes (λ k x at. process_none g m form names one is k x at))
