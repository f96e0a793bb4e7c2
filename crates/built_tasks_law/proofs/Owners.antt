-- Whose texts the names of calls mean, and what they mean in the meaning of programs.
use Rattle.std.specs.Prelude.{◌≡◌, ◌⊎◌, ℕ, false, Option, Some, None, slice_get, option_map}
use Rattle.std.proofs.Common.{inl, inr, refl, sym, ap, subst, ◌∙◌}
use Rattle.std.proofs.lemmas.Option.{none-some, same_Some}
use Rattle.syntax_tree.specs.Plain.{Name, Routine, Monitor, Process, Program}
use Rattle.source_semantics.specs.Names.{named, routines, monitors, processes, monitor_number}
use Rattle.source_semantics.specs.Run.{of_program, of_process, or_else, entry_name, routine_named}
use Rattle.code_spec.specs.Layout.{Owner, by_program, by_process, by_monitor, home_of}
use Rattle.code_spec.specs.Numbering.{Text, routine_of, process_routines, routine_in, entry_of, entry_in}
use Rattle.code_spec.specs.Proper.{found_of}
use Rattle.codegen_law.proofs.NameNumbers.{of_list}
use Rattle.codegen_law.specs.Ruled.{NamesApart}
use Rattle.built_tasks_law.specs.Touches.{is_entry_of}

-- ---- whose a text is

-- the program's, or of the process in whose text the name stands
abbrev pub Near : Owner → Text → Type 0
Near o t = (t.owner ≡ by_program) ⊎ ((k : ℕ) × (o ≡ by_process k) × (t.owner ≡ by_process k))

pub named_near : (g : Program) (o : Owner) (f : Name) (t : Text) → routine_in g o f ≡ Some t → Near o t
named_near g by_program f t e = inl (of_list by_program (routines g) f t e).0
named_near g (by_monitor m) f t e = inl (of_list by_program (routines g) f t e).0
named_near g (by_process k) f t e = by (routine_of (by_process k) (process_routines (slice_get (processes g) k)) f) refl e
  where
    by : (x : Option Text) → routine_of (by_process k) (process_routines (slice_get (processes g) k)) f ≡ x → or_else x (routine_of by_program (routines g) f) ≡ Some t → Near (by_process k) t
    by None is h = inl (of_list by_program (routines g) f t h).0
    by (Some y) is h = inr (k, refl, (of_list (by_process k) (process_routines (slice_get (processes g) k)) f t (is ∙ h)).0)

-- it is no entry
pub near_entry : (j : ℕ) (o : Owner) (t : Text) → Near o t → is_entry_of j t.owner ≡ false
near_entry j o t (inl e) = ap (λ w. is_entry_of j w) e
near_entry j o t (inr e) = ap (λ w. is_entry_of j w) e.2

-- the text of process k, of the program, or of an entry
abbrev pub Known : ℕ → Owner → Type 0
Known k by_program = Unit {0}
Known k (by_process i) = i ≡ k
Known k (by_monitor m) = Unit {0}

pub near_known : (k : ℕ) (o : Owner) (t : Text) → Known k o → Near o t → Known k t.owner
near_known k o t known (inl e) = subst (λ w. Known k w) (sym e) tt
near_known k o t known (inr e) = subst (λ w. Known k w) (sym e.2) (subst (λ w. Known k w) e.1 known)

pub entry_owner : (g : Program) (m e : Name) (t : Text) → entry_in g m e ≡ Some t → t.owner ≡ by_monitor (monitor_number g m)
entry_owner g m e t is = by (named (λ k. k.name) m (monitors g)) is
  where
    by : (d : Option Monitor) → entry_of (monitor_number g m) d e ≡ Some t → t.owner ≡ by_monitor (monitor_number g m)
    by None h = absurd (none-some t h)
    by (Some k) h = (of_list (by_monitor (monitor_number g m)) k.entries e t h).0

-- ---- the same in the meaning of programs

module _ (g : Program) (names : NamesApart g) (k : ℕ) (p : Process) (at : slice_get (processes g) k ≡ Some p) where
  shared : (f : Name) (t : Text) → routine_of by_program (routines g) f ≡ Some t → routine_named g p f ≡ Some (found_of t)
  shared f t e =
      let found = of_list by_program (routines g) f t e in
      ap (λ y. or_else (option_map (λ r. record { home = of_process; routine = r }) y) (option_map (λ r. record { home = of_program; routine = r }) (named entry_name f (routines g)))) (names.apart k p f t.routine at found.1)
      ∙ (ap (λ y. option_map (λ r. record { home = of_program; routine = r }) y) found.1
      ∙ ap (λ o. Some (record { home = home_of o; routine = t.routine })) (sym found.0))

  pub named_found : (o : Owner) (f : Name) (t : Text) → Known k o → routine_in g o f ≡ Some t → routine_named g p f ≡ Some (found_of t)
  named_found by_program f t known e = shared f t e
  named_found (by_monitor m) f t known e = shared f t e
  named_found (by_process i) f t known e =
      by (named entry_name f p.routines) (named entry_name f (routines g))
      (subst (λ o. or_else (routine_of (by_process i) (process_routines o) f) (routine_of by_program (routines g) f) ≡ Some t) (ap (λ n. slice_get (processes g) n) known ∙ at) e)
    where
      by : (a b : Option Routine) → or_else (option_map (λ r. record { owner = by_process i; routine = r }) a) (option_map (λ r. record { owner = by_program; routine = r }) b) ≡ Some t
          → or_else (option_map (λ r. record { home = of_process; routine = r }) a) (option_map (λ r. record { home = of_program; routine = r }) b) ≡ Some (found_of t)
      by (Some r) b h = ap (λ y. Some (found_of y)) (same_Some (record { owner = by_process i; routine = r }) t h)
      by None (Some r) h = ap (λ y. Some (found_of y)) (same_Some (record { owner = by_program; routine = r }) t h)
      by None None h = absurd (none-some t h)
