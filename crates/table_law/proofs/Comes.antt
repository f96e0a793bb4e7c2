-- The process of a line comes to an entry exactly where the line has a stay in its monitor for its
-- ticks.
use Rattle.std.proofs.Common.{◌≡◌, ◌≤◌, ℕ, zero, suc, Bool, true, false, ◌||◌, bytes_eq, nat_eq, [], ◌++◌, Some, map, refl, ap, sym, ◌∙◌, arith}
use Rattle.std.specs.Prelude.{slice_get}
use Rattle.std.proofs.lemmas.Bool.{eqb-true, eq-eqb, and_from}
use Rattle.syntax_tree.specs.Plain.{Name, Program}
use Rattle.syntax_tree.specs.Placed.{plain, plain_routine, plain_process}
use Rattle.source_semantics.specs.Names.{monitor_number, routine_count}
use Rattle.code_spec.specs.Layout.{by_process}
use Rattle.code_spec.specs.Numbering.{Text, called_text, routine_calls, same_text, numbered}
use Rattle.sched_program.specs.Tasks.{passes_some, some_called, comes_to, process_comes_to}
use Rattle.table_format.specs.declared.table.TaskStay.{TaskStay}
use Rattle.table_format.specs.declared.table.TaskLine.{TaskLine}
use Rattle.table_format.specs.declared.table.TaskTable.{TaskTable}
use Rattle.table_format.specs.Rules as of_table
use Rattle.table_format.specs.Rules.{same_name, stays, names_of_monitors}
use Rattle.table_format.specs.Program.{stay_name, stay_entry, stays_in, table_process, program_with}
use Rattle.table_law.proofs.Few.{same_is, same_self}
use Rattle.table_law.proofs.Fits.{StayFits, LineFits, TableFits}
use Rattle.table_law.proofs.Members.{Elem, elem_map, elem_filter, elem_distinct, elem_some, elem_of}
use Rattle.table_law.proofs.Parts.{mon, routines_counted}
use Rattle.table_law.proofs.Costs.{entry_found, stays_there, got_is_in}
use Rattle.table_law.proofs.Elements.{one_passes, passes_one, elem_at}
use Rattle.table_law.proofs.Calls.{call_of, line_calls, entry_calls}
use Rattle.table_law.proofs.TaskEntries.{entry_text, IsEntryText, same_texts, numbered_are_entries, entry_is_numbered}

or_false : (b : Bool) → (b || false) ≡ b
or_false true = refl
or_false false = refl

-- a text that calls nothing comes to itself alone
comes_itself : (n : ℕ) (g : Program) (goal x : Text) → routine_calls x.routine ≡ [] → comes_to n g goal x ≡ same_text goal x
unfolding comes_to
comes_itself zero g goal x none = refl
comes_itself (suc n) g goal x none =
    ap (λ cs. same_text goal x || some_called (comes_to n g goal) (called_text g x.owner) cs) none ∙ or_false (same_text goal x)

entry_itself : (tail : Name) (monitor ticks : ℕ) → same_text (entry_text tail monitor ticks) (entry_text tail monitor ticks) ≡ true
entry_itself tail monitor ticks = and_from (nat_eq monitor monitor) (bytes_eq (stay_name ticks ++ tail) (stay_name ticks ++ tail)) (eq-eqb monitor monitor refl) (same_self (stay_name ticks ++ tail))

module _ (tail : Name) (t : TaskTable) (fits : TableFits t) where
  abbrev program : Program
  program = plain (program_with tail t)

  abbrev text_of : TaskStay → Text
  text_of s = entry_text tail (monitor_number program s.monitor) s.ticks

  module _ (k : ℕ) (line : TaskLine) (there : slice_get t.tasks k ≡ Some line) where
    pub line_fit : LineFits line
    line_fit = elem_of LineFits line t.tasks fits.tasks (got_is_in t.tasks k line there)

    pub stay_fit : (s : TaskStay) → Elem s line.stays → StayFits s
    stay_fit s e = elem_of StayFits s line.stays line_fit.stays e

    pub stay_in : (s : TaskStay) → Elem s line.stays → Elem s (stays t)
    stay_in s e = elem_of (λ z. Elem z (stays t)) s line.stays (stays_there t line (got_is_in t.tasks k line there)) e

    meant : (goal : Text) (s : TaskStay) → Elem s line.stays → passes_some (comes_to (routine_count program) program goal) (called_text program (by_process k) (call_of tail s)) ≡ same_text goal (text_of s)
    meant goal s e =
        ap (passes_some (comes_to (routine_count program) program goal)) (entry_found tail t fits s (stay_in s e) (stay_fit s e))
        ∙ comes_itself (routine_count program) program goal (text_of s) (entry_calls tail s.ticks (stay_fit s e).ticks)

    called_are : (goal : Text) → process_comes_to program goal k (plain_process (table_process tail line)) ≡ some_called (comes_to (routine_count program) program goal) (called_text program (by_process k)) (map (call_of tail) line.stays)
    called_are goal = ap (some_called (comes_to (routine_count program) program goal) (called_text program (by_process k))) (line_calls tail line line_fit)

    pub comes_by_stay : (goal : Text) → IsEntryText tail goal → process_comes_to program goal k (plain_process (table_process tail line)) ≡ true → (s : TaskStay) × Elem s line.stays × (goal ≡ text_of s)
    comes_by_stay goal is comes =
        let one = one_passes (comes_to (routine_count program) program goal) (called_text program (by_process k)) (call_of tail) line.stays (sym (called_are goal) ∙ comes) in
        let entry : IsEntryText tail (text_of one.0) = record { number = monitor_number program one.0.monitor; ticks = one.0.ticks; fits = (stay_fit one.0 one.1).ticks; is = refl } in
        (one.0, one.1, same_texts tail goal (text_of one.0) is entry (sym (meant goal one.0 one.1) ∙ one.2))

    pub stay_comes : (s : TaskStay) → Elem s line.stays → process_comes_to program (text_of s) k (plain_process (table_process tail line)) ≡ true
    stay_comes s e =
        called_are (text_of s)
        ∙ passes_one (comes_to (routine_count program) program (text_of s)) (called_text program (by_process k)) (call_of tail) s line.stays e
        (meant (text_of s) s e ∙ entry_itself tail (monitor_number program s.monitor) s.ticks)

  -- ---- numbers of entries

  pub monitor_in : (s : TaskStay) → Elem s (stays t) → Elem s.monitor (of_table.monitors t)
  monitor_in s e = elem_distinct same_name same_is s.monitor (names_of_monitors t) (elem_map (λ z. z.monitor) s (stays t) e)

  ticks_in : (s : TaskStay) → Elem s (stays t) → Elem s.ticks (stays_in t s.monitor)
  ticks_in s e = elem_distinct nat_eq eqb-true s.ticks _
      (elem_map (λ z. z.ticks) s _ (elem_filter (λ z. same_name s.monitor z.monitor) s (stays t) (same_self s.monitor) e))

  some_routine : (s : TaskStay) → Elem s (stays t) → 1 ≤ routine_count program
  some_routine s e =
      let in_it = elem_map plain_routine (stay_entry tail s.ticks) (map (stay_entry tail) (stays_in t s.monitor)) (elem_map (stay_entry tail) s.ticks (stays_in t s.monitor) (ticks_in s e)) in
      omega (arith, elem_some (plain_routine (stay_entry tail s.ticks)) (mon tail t s.monitor).entries in_it, routines_counted tail t s.monitor (monitor_in s e))

  pub stay_numbered : (s : TaskStay) → Elem s (stays t) → (at : ℕ) × (slice_get (numbered program) at ≡ Some (text_of s))
  stay_numbered s e = elem_at (text_of s) (numbered program) (entry_is_numbered tail t fits (some_routine s e) s.monitor s.ticks (monitor_in s e) (ticks_in s e))

  pub declared_entry : (at : ℕ) (x : Text) → slice_get (numbered program) at ≡ Some x → IsEntryText tail x
  declared_entry at x is = numbered_are_entries tail t fits x (got_is_in (numbered program) at x is)
