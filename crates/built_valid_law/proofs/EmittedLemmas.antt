-- The laws.
use Rattle.std.specs.Prelude.{◌≡◌, ℕ, length, Option, Some, slice_get}
use Rattle.std.proofs.Common.{inl, inr, sym, subst, ◌∙◌, arith}
use Rattle.std.proofs.lemmas.Option.{slice_get_within}
use Rattle.syntax_tree.specs.Plain.{Process, Program}
use Rattle.source_semantics.specs.Names.{processes}
use Rattle.machine_isa.specs.declared.instr.Instr.{Instr}
use Rattle.machine_semantics.specs.Image as image
use Rattle.valid_image.specs.Pieces.{piece_number}
use Rattle.code_spec.specs.Numbering.{Text, numbered}
use Rattle.code_spec.specs.Compiled.{EmitsRoutine, EmitsProcess, IsCodeOf}
use Rattle.built_valid_law.specs.Has.{RoutineHas, ProcessHas}
use Rattle.built_valid_law.specs.Kept.{Passes, PieceKeeps, LiesInRoutine, LiesInProcess, StatementsKeep, RoutinesKeep, ProcessesKeep, RoutinesOwnTheirCode, ProcessesOwnTheirCode, RoutinePiecesKeep, ProcessPiecesKeep}
use Rattle.built_valid_law.proofs.Keeping.{stmts_keep, routine_keeps, process_keeps}
use Rattle.built_valid_law.proofs.Owning.{Around, OfProcess, OfText, routines_counted, lies}

pub same_some : {A : Type 0} (x y : A) (o : Option A) → o ≡ Some x → o ≡ Some y → x ≡ y
same_some x y o e f = let h : Some x ≡ Some y = sym e ∙ f in cc

-- ---- whose code it is

pub lies_in_routine : RoutinesOwnTheirCode
lies_in_routine g m is r t at a lt mine = by (lies g m is r a lt mine)
  where
    counted : length m.routines ≡ length (numbered g)
    counted = routines_counted g m.code 0 is.between (numbered g) m.routines is.routine_code

    by : Around (OfText g m) r a → LiesInRoutine g m.code t a
    by w = elim (w.is) [
      | inl x ↦ record { from = w.from; to = w.to; emits = subst (λ u. EmitsRoutine g m.code u w.from w.to) (same_some x.text t (slice_get (numbered g) r) x.there at) x.emits; low = w.low; high = w.high }
      | inr x ↦ absurd (omega (arith, x.is, counted, slice_get_within (numbered g) r t at))
    ]

pub lies_in_process : ProcessesOwnTheirCode
lies_in_process g m is k t ip at made a lt mine = by (lies g m is (piece_number m k) a lt mine)
  where
    counted : length m.routines ≡ length (numbered g)
    counted = routines_counted g m.code 0 is.between (numbered g) m.routines is.routine_code

    process_there : (from to : ℕ) → OfProcess g m (piece_number m k) from to → EmitsProcess g m.code k t from to ip
    process_there from to x =
        let n : x.number ≡ k = omega (arith, x.is) in
        let text : x.text ≡ t = same_some x.text t (slice_get (processes g) k) (subst (λ j. slice_get (processes g) j ≡ Some x.text) n x.there) at in
        let this : x.made ≡ ip = same_some x.made ip (slice_get m.processes k) (subst (λ j. slice_get m.processes j ≡ Some x.made) n x.in_image) made in
        subst (λ z. EmitsProcess g m.code k t from to z) this (subst (λ z. EmitsProcess g m.code k z from to x.made) text (subst (λ j. EmitsProcess g m.code j x.text from to x.made) n x.emits))

    by : Around (OfText g m) (piece_number m k) a → LiesInProcess g m.code k t ip a
    by w = elim (w.is) [
      | inl x ↦ absurd (omega (arith, counted, slice_get_within (numbered g) (piece_number m k) x.text x.there))
      | inr x ↦ record { from = w.from; to = w.to; emits = process_there w.from w.to x; low = w.low; high = w.high }
    ]

-- ---- any property

module _ (P : Instr → Type 0) (g : Program) (m : image.Image) (is : IsCodeOf g m) where
  pub routine_piece_keeps : (r : ℕ) (t : Text) → slice_get (numbered g) r ≡ Some t → RoutineHas P g t → PieceKeeps m P r
  routine_piece_keeps r t at has a j mine there =
      let l : LiesInRoutine g m.code t a = lies_in_routine g m is r t at a (slice_get_within m.code a j there) mine in
      routine_keeps m.code P g t l.from l.to l.emits has a j l.low l.high there

  pub process_piece_keeps : (k : ℕ) (t : Process) (ip : image.Process) → slice_get (processes g) k ≡ Some t → slice_get m.processes k ≡ Some ip → ProcessHas P g k t → PieceKeeps m P (piece_number m k)
  process_piece_keeps k t ip at made has a j mine there =
      let l : LiesInProcess g m.code k t ip a = lies_in_process g m is k t ip at made a (slice_get_within m.code a j there) mine in
      process_keeps m.code P g k t l.from l.to ip l.emits has a j l.low l.high there

-- ---- tests

pub statements_keep : StatementsKeep
statements_keep test g code c w p q ss branches emits has = stmts_keep code (Passes test) g branches ss c w p q emits has

pub routines_keep : RoutinesKeep
routines_keep test g code t p q emits has = routine_keeps code (Passes test) g t p q emits has

pub processes_keep : ProcessesKeep
processes_keep test g code k t p q ip emits has = process_keeps code (Passes test) g k t p q ip emits has

pub routine_pieces_keep : RoutinePiecesKeep
routine_pieces_keep test g m is r t at has = routine_piece_keeps (Passes test) g m is r t at has

pub process_pieces_keep : ProcessPiecesKeep
process_pieces_keep test g m is k t ip at made has = process_piece_keeps (Passes test) g m is k t ip at made has
