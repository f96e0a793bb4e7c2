-- How many words of stack the entries and the processes of a table's program take.
use Rattle.std.proofs.Common.{◌≡◌, ◌≤◌, ◌<◌, ◌+◌, ◌-◌, ℕ, zero, suc, List, [], ◌∷◌, ◌++◌, Some, map, sym, subst, arith}
use Rattle.std.specs.Prelude.{max, slice_get}
use Rattle.syntax_tree.specs.Plain.{Name, Program}
use Rattle.syntax_tree.specs.Placed.{Stmt, plain, plain_stmts, plain_routine, plain_process}
use Rattle.source_semantics.specs.Names.{monitor_number, routine_count}
use Rattle.code_spec.specs.Layout.{Owner, by_process, by_monitor, loops, routine_words}
use Rattle.code_spec.specs.Numbering.{Text, entry_in}
use Rattle.code_cost_spec.specs.Names.{Calls}
use Rattle.code_cost_spec.specs.Heights.{call_height, stmts_height, routine_height}
use Rattle.code_cost_spec.specs.Levels.{calls_at, calls_of, stack_of_process}
use Rattle.table_format.specs.declared.table.TaskStay.{TaskStay}
use Rattle.table_format.specs.declared.table.TaskLine.{TaskLine}
use Rattle.table_format.specs.declared.table.TaskTable.{TaskTable}
use Rattle.table_format.specs.Rules.{stays, least_cost}
use Rattle.table_format.specs.Spending.{Nowhere, in_turn, spend}
use Rattle.table_format.specs.Program.{stay_name, stay_entry, stay_call, table_process, program_with}
use Rattle.table_law.proofs.Spends.{spent}
use Rattle.table_law.proofs.TextSizes.{low, few_loops}
use Rattle.table_law.proofs.Lists.{Every}
use Rattle.table_law.proofs.Fits.{TicksFit, StayFits, LineFits, TableFits}
use Rattle.table_law.proofs.Members.{Elem}
use Rattle.table_law.proofs.Costs.{entry_found}

module _ (tail : Name) (g : Program) (monitor ticks : ℕ) (fits : TicksFit ticks) where
  entry_height : (k : Calls) → routine_height g (by_monitor monitor) k (plain_routine (stay_entry tail ticks)) ≤ 4
  entry_height k =
      let left = ticks - 3 in
      omega (arith, low g (by_monitor monitor) k tail left (spend tail left) (spent tail left fits.met (omega (arith, fits.few))))

  entry_words : routine_words g (plain_routine (stay_entry tail ticks)) ≤ 4
  entry_words =
      let left = ticks - 3 in
      omega (arith, few_loops tail left (spend tail left) (spent tail left fits.met (omega (arith, fits.few))))

  pub entry_stack : (k : Calls) → routine_words g (plain_routine (stay_entry tail ticks)) + routine_height g (by_monitor monitor) k (plain_routine (stay_entry tail ticks)) ≤ 8
  entry_stack k = omega (arith, entry_height k, entry_words)

  called_height : (deep : ℕ) → (calls_at deep g).height (record { owner = by_monitor monitor; routine = plain_routine (stay_entry tail ticks) }) ≤ 4
  unfolding calls_at
  called_height zero = omega arith
  called_height (suc deep) = entry_height (calls_at deep g)

module _ (tail : Name) (t : TaskTable) (fits : TableFits t) where
  abbrev program : Program
  program = plain (program_with tail t)

  one_call : (s : TaskStay) → Elem s (stays t) → StayFits s → call_height program (calls_of program) (entry_in program s.monitor (stay_name s.ticks ++ tail)) 0 ≤ 10
  one_call s e fit =
      let number = monitor_number program s.monitor in
      let words = entry_words tail program number s.ticks fit.ticks in
      let height = called_height tail program number s.ticks fit.ticks (routine_count program) in
      subst (λ o. call_height program (calls_of program) o 0 ≤ 10) (sym (entry_found tail t fits s e fit)) (omega (arith, words, height))

  all_calls : (o : Owner) (all : List TaskStay) → Every StayFits all → Every (λ s. Elem s (stays t)) all → (ss : List (Stmt Nowhere))
      → stmts_height program o (calls_of program) (plain_stmts (in_turn ss)) ≤ 4
      → stmts_height program o (calls_of program) (plain_stmts (in_turn (map (stay_call tail) all ++ ss))) ≤ 10
  all_calls o [] fit there ss small = omega (arith, small)
  all_calls o (s ∷ all) fit there ss small = omega (arith, one_call s there.0 fit.0, all_calls o all fit.1 there.1 ss small)

  calls_loops : (all : List TaskStay) (ss : List (Stmt Nowhere)) → loops (plain_stmts (in_turn ss)) ≤ 3 → loops (plain_stmts (in_turn (map (stay_call tail) all ++ ss))) ≤ 3
  calls_loops [] ss few = few
  calls_loops (s ∷ all) ss few = omega (arith, calls_loops all ss few)

  pub process_stack : (k : ℕ) (line : TaskLine) → LineFits line → Every (λ s. Elem s (stays t)) line.stays
      → stack_of_process program k (plain_process (table_process tail line)) ≤ 13
  process_stack k line fit there =
      let left = line.cost - least_cost line in
      let spends = spent tail left fit.met (omega (arith, fit.cost_few)) in
      let height = all_calls (by_process k) line.stays fit.stays there (spend tail left) (low program (by_process k) (calls_of program) tail left (spend tail left) spends) in
      omega (arith, height, calls_loops line.stays (spend tail left) (few_loops tail left (spend tail left) spends))
