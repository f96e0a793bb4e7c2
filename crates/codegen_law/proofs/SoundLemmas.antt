-- Well-formed programs whose names stand apart are sound.
use Rattle.std.specs.Prelude.{◌≡◌, ◌<◌, ℕ, zero, suc, Bool, List, [], ◌∷◌, Option, Some, None, slice_get, length, Contains}
use Rattle.std.proofs.Common.{sym, ◌∙◌, ap, subst, arith}
use Rattle.std.proofs.lemmas.Option.{none-some}
use Rattle.syntax_tree.specs.Plain.{Routine, Stmts, Handler, Process, Program}
use Rattle.source_semantics.specs.Names.{processes}
use Rattle.code_spec.specs.Layout.{Owner, by_process, home_of}
use Rattle.code_spec.specs.Numbering.{Text, Called, calls_routine, calls_entry, called_text, stmts_calls, answers_calls, routine_calls, numbered, number_of}
use Rattle.code_spec.specs.Compiled.{process_scope}
use Rattle.static_semantics.specs.Here.{in_routine, in_process}
use Rattle.static_semantics.specs.Statements.{AllFit, may_call}
use Rattle.static_semantics.specs.WellFormed.{IsWellFormed, OptionalFits}
use Rattle.codegen_law.proofs.NameNumbers.{IsText, called_is_text}
use Rattle.code_measures.specs.Sound.{SoundAll, SoundRoutine, SoundHandler}
use Rattle.code_measures.specs.Declared.{IsBelow, IsSound}
use Rattle.codegen_law.specs.Ruled.{NamesApart}
use Rattle.codegen_law.specs.Numbered.{CallsText, AreNumbered}
use Rattle.codegen_law.proofs.NumberedLemmas.{text_listed, listed_text, routines_are_numbered}
use Rattle.codegen_law.specs.Called.{AllCalled, Finds}
use Rattle.codegen_law.proofs.Finding.{called_both, called_one, called_all, text_finds, stmts_find}
use Rattle.codegen_law.specs.Sound.{RoutinesHaveNumbers, WellFormedProgramsAreSound}
use Rattle.codegen_law.proofs.SoundTexts.{CallAgrees, routine_sound, own_sound}
use Rattle.codegen_law.proofs.Owners.{Means, setting_at, process_fits, text_stands, own_means}
use Rattle.codegen_law.proofs.Levels.{level, are_levels}

-- what a call finds is what it names, and may be called
call_agrees : (g : Program) (p : Process) (may : Text → Type 0) (o : Owner) (b : Bool) (c : Called) → Finds g p b c → Means g p o c → ((u : Text) → called_text g o c ≡ Some u → may u) → CallAgrees g p may o c
call_agrees g p may o b (calls_routine f) found means allowed =
    let n = means found.found found.is in
    record { text = n.text; is = n.is; found = found.is ∙ ap (λ y. Some y) (sym n.same); allowed = allowed n.text n.is }
call_agrees g p may o b (calls_entry m e) found means allowed =
    let n = means found.found found.is in
    record { text = n.text; is = n.is; found = found.is ∙ ap (λ y. Some y) (sym n.same); allowed = allowed n.text n.is }

-- so it is of all calls
pub calls_agree : (g : Program) (p : Process) (may : Text → Type 0) (o : Owner) (b : Bool) (cs : List Called) → AllCalled (Finds g p b) cs → AllCalled (Means g p o) cs
    → ((c : Called) (u : Text) → Contains cs c → called_text g o c ≡ Some u → may u) → AllCalled (CallAgrees g p may o) cs
calls_agree g p may o b cs found means allowed =
    called_all (CallAgrees g p may o) cs (λ c i. call_agrees g p may o b c (called_one (Finds g p b) cs c found i) (called_one (Means g p o) cs c means i) (λ u is. allowed c u i is))

module _ (g : Program) (form : IsWellFormed g) (names : NamesApart g) where
  pub are_numbered : AreNumbered g
  are_numbered = routines_are_numbered g (level g form names) names.differ (are_levels g form names)

  -- a text that is sound, where all that it calls may be called
  pub text_sound : (may : Text → Type 0) (o : Owner) (r : Routine) → IsText g (record { owner = o; routine = r })
      → ((u : Text) → CallsText g (record { owner = o; routine = r }) u → may u) → SoundRoutine g may (record { owner = o; routine = r })
  text_sound may o r is allowed =
      let s = text_stands g form names o r is in
      let t = text_finds (in_routine g s.process (home_of o) r) r.body r.answers s.fits.body s.fits.answers in
      let b = may_call (in_routine g s.process (home_of o) r) in
      routine_sound (setting_at g s.number s.process) s.at may o r s.known s.fits
      (calls_agree g s.process may o b (routine_calls r) (called_both (Finds g s.process b) (stmts_calls r.body) (answers_calls r.answers) t.body_finds t.answers_find) s.means
      (λ c u i e. allowed u (record { call = c; listed = i; means = e })))

  -- the text of a process
  pub part_sound : (may : Text → Type 0) (k : ℕ) (p : Process) → slice_get (processes g) k ≡ Some p → (ss : Stmts) → AllFit (in_process g p) ss
      → ((c : Called) (u : Text) → Contains (stmts_calls ss) c → called_text g (by_process k) c ≡ Some u → may u) → SoundAll g may (process_scope g k p) ss
  part_sound may k p at ss fit allowed =
      own_sound (setting_at g k p) at may ss fit
      (calls_agree g p may (by_process k) (may_call (in_process g p)) (stmts_calls ss) (stmts_find ss (in_process g p) fit) (own_means g k p at (stmts_calls ss)) allowed)

  -- ---- numbers

  there_below : (ts : List Text) (k : ℕ) (t : Text) → slice_get ts k ≡ Some t → k < length ts
  there_below [] k t e = absurd (none-some t e)
  there_below (u ∷ ts) zero t e = omega arith
  there_below (u ∷ ts) (suc k) t e = let l = there_below ts k t e in omega arith

  -- what is called has a lower number
  pub below : (r : ℕ) (t u : Text) → slice_get (numbered g) r ≡ Some t → CallsText g t u → IsBelow g r u
  below r t u at called =
      let n = are_numbered in
      let listed = n.listed r t at in
      record {
        low = subst (λ k. number_of g u < k) (n.once r t at) (n.behind t u listed called);
        there = n.there u (text_listed g names.differ u (called_is_text g names.differ t.owner called.call u called.means));
      }

  pub below_all : (o : Owner) (c : Called) (u : Text) → called_text g o c ≡ Some u → IsBelow g (length (numbered g)) u
  below_all o c u e =
      let there = (are_numbered).there u (text_listed g names.differ u (called_is_text g names.differ o c u e)) in
      record { low = there_below (numbered g) (number_of g u) u there; there = there }

  -- ---- the whole program

  handler_sound : (k : ℕ) (p : Process) → slice_get (processes g) k ≡ Some p → (h : Option Handler) → OptionalFits g p h → SoundHandler g (λ y. IsBelow g (length (numbered g)) y) (process_scope g k p) h
  handler_sound k p at None fit = tt
  handler_sound k p at (Some h) fit = part_sound (λ y. IsBelow g (length (numbered g)) y) k p at h.body fit.body (λ c u i e. below_all (by_process k) c u e)

  is_sound : IsSound g
  is_sound = record {
    few = (are_numbered).few;
    routines = λ r t at. text_sound (λ y. IsBelow g r y) t.owner t.routine (listed_text g names.differ t ((are_numbered).listed r t at)) (λ u called. below r t u at called);
    bodies = λ k p at. (
      part_sound (λ y. IsBelow g (length (numbered g)) y) k p at p.body (process_fits g form names k p at).body (λ c u i e. below_all (by_process k) c u e),
      handler_sound k p at p.handler (process_fits g form names k p at).handler,
    );
  }

pub routines_have_numbers : RoutinesHaveNumbers
routines_have_numbers g form names = are_numbered g form names

pub well_formed_programs_are_sound : WellFormedProgramsAreSound
well_formed_programs_are_sound g form names = is_sound g form names
