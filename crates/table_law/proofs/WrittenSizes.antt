-- No rule of size fails of a table's program.
use Rattle.std.proofs.Common.{◌≡◌, ◌≤◌, ◌∙◌, ℕ, zero, suc, List, [], ◌∷◌, Some, map, refl, ap, sym, subst, inl, inr, arith}
use Rattle.std.specs.Prelude.{slice_get}
use Rattle.std.proofs.lemmas.Option.{same_Some, none-some}
use Rattle.syntax_tree.specs.Plain as plain_of
use Rattle.syntax_tree.specs.Plain.{Program}
use Rattle.syntax_tree.specs.declared.place.Place.{Place}
use Rattle.syntax_tree.specs.Placed.{Process, Prog, plain, plain_routine, plain_process}
use Rattle.syntax_tree.specs.Parts as parts
use Rattle.syntax_tree.specs.Bare.{bare}
use Rattle.source_semantics.specs.Names.{processes}
use Rattle.code_spec.specs.Layout.{by_monitor}
use Rattle.code_cost_spec.specs.Levels.{code_length, stack_of_process}
use Rattle.code_cost.specs.Rules.{PlacedText, SizeFails, routine_stack, placed_texts_from}
use Rattle.code_cost.proofs.Parts.{plain_process_at}
use Rattle.load_text_law.proofs.Plain.{plain-bare}
use Rattle.table_format.specs.declared.table.TaskLine.{TaskLine}
use Rattle.table_format.specs.declared.table.TaskTable.{TaskTable}
use Rattle.table_format.specs.Rules.{IsBegun}
use Rattle.table_format.specs.Program.{made_tail, stay_entry, program_of}
use Rattle.table_law.proofs.Lists.{Every}
use Rattle.table_law.proofs.Fits.{table_fits}
use Rattle.table_law.specs.Costs.{table_program, process_of, HasProcesses}
use Rattle.table_law.specs.Sizes.{IsShortCode, HasLowProcesses, HasLowEntries}
use Rattle.table_law.proofs.Shapes.{IsDeclOf, decls_are}
use Rattle.table_law.proofs.WrittenEntries.{IsEntryText, of_each, plain_like, entries_alone}

-- the laws of the numbers of a table's program
pub record Numbers : Type 0 where
  pub processes : HasProcesses
  pub short : IsShortCode
  pub low_processes : HasLowProcesses
  pub low_entries : HasLowEntries

-- ---- the process of a line

record OfLine (f : TaskLine → plain_of.Process) (lines : List TaskLine) (k : ℕ) (p : plain_of.Process) : Type 0 where
  line : TaskLine
  there : slice_get lines k ≡ Some line
  is : f line ≡ p

of_line : (f : TaskLine → plain_of.Process) (lines : List TaskLine) (k : ℕ) (p : plain_of.Process) → slice_get (map f lines) k ≡ Some p → OfLine f lines k p
of_line f [] k p e = absurd (none-some p e)
of_line f (line ∷ lines) zero p e = record { line = line; there = refl; is = same_Some (f line) p e }
of_line f (line ∷ lines) (suc k) p e = (let more = of_line f lines k p e in record { line = more.line; there = more.there; is = more.is })

-- ---- the rules

module _ (laws : Numbers) (t : TaskTable) (begun : IsBegun t) (g : Prog Place) (like : bare g ≡ program_of t) where
  same_program : plain g ≡ table_program t
  same_program = sym (plain-bare g) ∙ ap plain like

  decls_of : Every (IsDeclOf (made_tail t) t) g.decls
  unfolding program_of
  decls_of = decls_are (made_tail t) t (table_fits t begun) g like

  short : code_length (plain g) ≤ 20544
  short = subst (λ (p : Program). code_length p ≤ 20544) (sym same_program) (laws.short t begun)

  low_entry : (x : PlacedText) → IsEntryText (made_tail t) x → routine_stack (plain g) x.owner (plain_routine x.routine) ≤ 8
  low_entry x is =
      let entry = stay_entry (made_tail t) is.entry.ticks in
      let fits = is.entry.is.fits in
      let low : routine_stack (table_program t) (by_monitor is.monitor) (plain_routine entry) ≤ 8 = laws.low_entries t is.monitor is.entry.ticks fits.some fits.few fits.met in
      subst (λ (p : Program). routine_stack p x.owner (plain_routine x.routine) ≤ 8) (sym same_program)
      (subst (λ o. routine_stack (table_program t) o (plain_routine x.routine) ≤ 8) (sym is.is)
      (subst (λ r. routine_stack (table_program t) (by_monitor is.monitor) r ≤ 8) (sym (plain_like x.routine entry is.entry.is.like)) low))

  low_process : (k : ℕ) (p : Process Place) → slice_get (parts.processes g.decls) k ≡ Some p → stack_of_process (plain g) k (plain_process p) ≤ 13
  low_process k p there =
      let own : slice_get (processes (plain g)) k ≡ Some (plain_process p) = plain_process_at g.decls k p there in
      let of_table : slice_get (processes (table_program t)) k ≡ Some (plain_process p) = subst (λ (h : Program). slice_get (processes h) k ≡ Some (plain_process p)) same_program own in
      let it = of_line (process_of t) t.tasks k (plain_process p) (ap (λ ps. slice_get ps k) (sym (laws.processes t)) ∙ of_table) in
      let low : stack_of_process (table_program t) k (plain_process p) ≤ 13 = subst (λ q. stack_of_process (table_program t) k q ≤ 13) it.is (laws.low_processes t begun k it.line it.there) in
      subst (λ (h : Program). stack_of_process h k (plain_process p) ≤ 13) (sym same_program) low

  pub sizes_kept : (number : ℕ) (place : Place) → ¬ SizeFails g number place
  sizes_kept number place (inl (is, long)) = omega (arith, short, long.over)
  sizes_kept number place (inr (is, inl large)) =
      let entry = of_each (IsEntryText (made_tail t)) (placed_texts_from 0 0 g.decls) (entries_alone (made_tail t) t 0 0 g.decls decls_of) large.text large.listed in
      omega (arith, low_entry large.text entry, large.over)
  sizes_kept number place (inr (is, inr large)) = omega (arith, low_process large.number large.text large.listed, large.over)
