-- Functions and entries call functions alone, and these come to no monitor.
use Rattle.std.specs.Prelude.{◌≡◌, ◌⊎◌, ◌||◌, not, ℕ, zero, suc, Bool, true, false, Some, IsSome, is_some, nat_eq, Contains}
use Rattle.std.proofs.Common.{inl, inr, refl, sym, ap, subst, ◌∙◌}
use Rattle.std.proofs.lemmas.Bool.{false≢true}
use Rattle.std.proofs.lemmas.Option.{same_Some}
use Rattle.syntax_tree.specs.Plain.{Name, Answers, Routine, Process, Program}
use Rattle.source_semantics.specs.Names.{monitor_number}
use Rattle.code_spec.specs.Layout.{Owner, by_program, by_process, by_monitor, home_of}
use Rattle.code_spec.specs.Numbering.{Text, Called, calls_routine, calls_entry, called_text, stmts_calls, answers_calls, routine_calls, routine_in, entry_in}
use Rattle.code_spec.specs.Proper.{found_of}
use Rattle.static_semantics.specs.Here.{is_monitor, is_function_at, in_routine}
use Rattle.static_semantics.specs.Statements.{may_call}
use Rattle.static_semantics.specs.WellFormed.{IsWellFormed}
use Rattle.codegen_law.proofs.NameNumbers.{IsText, called_is_text}
use Rattle.codegen_law.specs.Ruled.{NamesApart}
use Rattle.codegen_law.proofs.Mirror.{OwnerKnown}
use Rattle.codegen_law.specs.Called.{Finds}
use Rattle.codegen_law.proofs.Finding.{called_both, called_one, text_finds}
use Rattle.codegen_law.proofs.Owners.{setting_at, text_stands}
use Rattle.built_tasks_law.proofs.Tests.{or_false}
use Rattle.built_tasks_law.specs.Touches.{is_entry_of, comes_to_one, touches}
use Rattle.built_tasks_law.proofs.Lists.{none_called}
use Rattle.built_tasks_law.proofs.Owners.{Near, Known, named_near, near_entry, entry_owner, named_found}

-- a function, or an entry
abbrev pub is_closed : Owner → Routine → Bool
is_closed o r = is_monitor (home_of o) || is_function_at (home_of o) r

known_as : (g : Program) (k : ℕ) (p : Process) (o : Owner) → OwnerKnown (setting_at g k p) o → Known k o
known_as g k p by_program h = tt
known_as g k p (by_process i) h = h
known_as g k p (by_monitor m) h = tt

-- it calls no procedure and no entry
may_not : (b : Bool) → b ≡ true → not b ≡ true → ⊥
may_not b e h = false≢true (sym (ap (λ z. not z) e) ∙ h)

module _ (g : Program) (form : IsWellFormed g) (names : NamesApart g) where
  -- what it calls is a function
  pub record IsFunction (o : Owner) (u : Text) : Type 0 where
    pub near : Near o u
    pub answers : IsSome u.routine.answers

  closed_calls : (o : Owner) (r : Routine) → IsText g (record { owner = o; routine = r }) → is_closed o r ≡ true
      → (c : Called) (u : Text) → Contains (routine_calls r) c → called_text g o c ≡ Some u → IsFunction o u
  closed_calls o r is closed c u listed means =
      let s = text_stands g form names o r is in
      let t = text_finds (in_routine g s.process (home_of o) r) r.body r.answers s.fits.body s.fits.answers in
      by c means
      (called_one (Finds g s.process (may_call (in_routine g s.process (home_of o) r))) (routine_calls r) c
      (called_both (Finds g s.process (may_call (in_routine g s.process (home_of o) r))) (stmts_calls r.body) (answers_calls r.answers) t.body_finds t.answers_find) listed)
    where
      by : (c : Called) → called_text g o c ≡ Some u → Finds g (text_stands g form names o r is).process (not (is_closed o r)) c → IsFunction o u
      by (calls_entry m e) e1 found = absurd (may_not (is_closed o r) closed found.allowed)
      by (calls_routine f) e1 found = allowed found.allowed
        where
          s_found : found.found ≡ found_of u
          s_found =
              same_Some found.found (found_of u)
              (sym found.is ∙ named_found g names (text_stands g form names o r is).number (text_stands g form names o r is).process (text_stands g form names o r is).at o f u
              (known_as g (text_stands g form names o r is).number (text_stands g form names o r is).process o (text_stands g form names o r is).known) e1)

          allowed : IsSome found.found.routine.answers ⊎ (not (is_closed o r) ≡ true) → IsFunction o u
          allowed (inr h) = absurd (may_not (is_closed o r) closed h)
          allowed (inl h) = record { near = named_near g o f u e1; answers = subst (λ y. IsSome y.routine.answers) s_found h }

  -- a function is closed
  function_closed : (o : Owner) (u : Text) → Near o u → IsSome u.routine.answers → is_closed u.owner u.routine ≡ true
  function_closed o u (inl e) h = ap (λ w. is_closed w u.routine) e ∙ h
  function_closed o u (inr e) h = ap (λ w. is_closed w u.routine) e.2 ∙ h

  -- so a text that is closed touches no monitor but its own
  pub closed_touches : (j n : ℕ) (t : Text) → IsText g t → is_closed t.owner t.routine ≡ true → touches n g j t ≡ is_entry_of j t.owner
  unfolding comes_to_one
  closed_touches j zero t is closed = refl
  closed_touches j (suc n) t is closed =
      ap (λ b. is_entry_of j t.owner || b)
      (none_called (touches n g j) (called_text g t.owner) (routine_calls t.routine)
      (λ c u i e. none u (closed_calls t.owner t.routine is closed c u i e) (λ h. closed_touches j n u (called_is_text g names.differ t.owner c u e) h)))
      ∙ or_false (is_entry_of j t.owner)
    where
      none : (u : Text) → IsFunction t.owner u → (is_closed u.owner u.routine ≡ true → touches n g j u ≡ is_entry_of j u.owner) → touches n g j u ≡ false
      none u f rest = rest (function_closed t.owner u f.near f.answers) ∙ near_entry j t.owner u f.near

  -- a function touches none
  pub function_touches : (j n : ℕ) (o : Owner) (f : Name) (t : Text) (a : Answers) → routine_in g o f ≡ Some t → t.routine.answers ≡ Some a → touches n g j t ≡ false
  function_touches j n o f t a means answers =
      closed_touches j n t (called_is_text g names.differ o (calls_routine f) t means) (function_closed o t (named_near g o f t means) (ap (λ y. is_some y) answers))
      ∙ near_entry j o t (named_near g o f t means)

  -- an entry its own
  pub entry_touches : (j n : ℕ) (m e : Name) (t : Text) → entry_in g m e ≡ Some t → touches n g j t ≡ nat_eq (monitor_number g m) j
  entry_touches j n m e t means =
      let owner : t.owner ≡ by_monitor (monitor_number g m) = entry_owner g m e t means in
      closed_touches j n t (called_is_text g names.differ by_program (calls_entry m e) t means) (ap (λ w. is_closed w t.routine) owner)
      ∙ ap (λ w. is_entry_of j w) owner
