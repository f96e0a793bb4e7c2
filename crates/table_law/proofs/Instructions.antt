-- How many instructions a table's program has.
use Rattle.std.proofs.Common.{◌≡◌, ◌≤◌, ◌<◌, ◌+◌, ◌-◌, ◌*◌, ℕ, zero, suc, Bool, true, false, List, [], ◌∷◌, ◌++◌, Option, Some, None, length, length-append, map, refl, ap, sym, ◌∙◌, subst, append_assoc, arith}
use Rattle.std.specs.Prelude.{cond, flat_map, slice_get}
use Rattle.syntax_tree.specs.Plain as plain_of
use Rattle.syntax_tree.specs.Plain.{Name, Program}
use Rattle.syntax_tree.specs.Placed.{Stmt, Decl, monitor, process, plain, plain_stmts, plain_decl, plain_routine, plain_process}
use Rattle.source_semantics.specs.Names.{processes, routine_count}
use Rattle.code_spec.specs.Layout.{by_monitor}
use Rattle.code_spec.specs.Numbering.{Text, Called, called_text, stmts_calls, routine_calls, is_among, visit_all, visit, visit_texts, texts_of, texts_from, numbered, entry_in}
use Rattle.code_cost_spec.specs.Names.{Names}
use Rattle.code_cost_spec.specs.Lengths.{call_length, stmts_length, process_length, routine_length}
use Rattle.code_cost_spec.specs.Levels.{routine_names, process_names, routines_length, processes_length, code_length}
use Rattle.table_format.specs.declared.table.TaskStay.{TaskStay}
use Rattle.table_format.specs.declared.table.TaskLine.{TaskLine}
use Rattle.table_format.specs.declared.table.TaskTable.{TaskTable}
use Rattle.table_format.specs.Rules as of_table
use Rattle.table_format.specs.Rules.{stays, least_cost, IsBegun}
use Rattle.table_format.specs.Spending.{Nowhere, in_turn, spend}
use Rattle.table_format.specs.Program.{stay_name, stay_entry, stays_in, table_monitor, stay_call, table_process, event_of, program_with}
use Rattle.table_law.proofs.Spends.{Spends, nothing, by_three, by_four, by_five, by_short, by_long, spent}
use Rattle.table_law.proofs.TextSizes.{short}
use Rattle.table_law.proofs.Lists.{Every, both}
use Rattle.table_law.proofs.Few.{sum_of, few_entries, map_length}
use Rattle.table_law.proofs.Fits.{TicksFit, LineFits, TableFits, table_fits, stays_in_fit}
use Rattle.table_law.proofs.Parts.{processes_are, process_there}
use Rattle.table_law.proofs.Costs.{entry_word, process_word}

-- ---- entries call nothing

calls_nothing : (tail : Name) (n : ℕ) (ss : List (Stmt Nowhere)) → Spends tail n ss → stmts_calls (plain_stmts (in_turn ss)) ≡ []
calls_nothing tail n ss nothing = refl
calls_nothing tail n ss (by_three m _ more is few spends) = calls_nothing tail m more spends
calls_nothing tail n ss (by_four m _ more is few spends) = calls_nothing tail m more spends
calls_nothing tail n ss (by_five m _ more is few spends) = calls_nothing tail m more spends
calls_nothing tail n ss (by_short turns m _ more is some few least most spends) = calls_nothing tail m more spends
calls_nothing tail n ss (by_long turns m _ more is some few least most spends) = calls_nothing tail m more spends

-- an entry of the table in a monitor
record IsEntryText (tail : Name) (x : Text) : Type 0 where
  monitor : ℕ
  ticks : ℕ
  fits : TicksFit ticks
  is : x ≡ record { owner = by_monitor monitor; routine = plain_routine (stay_entry tail ticks) }

entry_calls : (tail : Name) (ticks : ℕ) → TicksFit ticks → routine_calls (plain_routine (stay_entry tail ticks)) ≡ []
entry_calls tail ticks fits =
    ap (λ (cs : List Called). cs ++ []) (calls_nothing tail (ticks - 3) (spend tail (ticks - 3)) (spent tail (ticks - 3) fits.met (omega (arith, fits.few))))

module _ (tail : Name) (g : Program) where
  entry_length : (x : Text) → IsEntryText tail x → routine_length g (routine_names g x) x ≤ 35
  entry_length x is =
      let left = is.ticks - 3 in
      let here : Text = record { owner = by_monitor is.monitor; routine = plain_routine (stay_entry tail is.ticks) } in
      let few = short g (routine_names g here) tail (entry_word tail g is.monitor is.ticks) left (spend tail left) (spent tail left is.fits.met (omega (arith, is.fits.few))) in
      let one : routine_length g (routine_names g here) here ≤ 35 = omega (arith, few) in
      subst (λ y. routine_length g (routine_names g y) y ≤ 35) (sym is.is) one

  length_both : (xs ys : List Text) → routines_length g (xs ++ ys) ≡ routines_length g xs + routines_length g ys
  length_both [] ys = omega arith
  length_both (x ∷ xs) ys = omega (arith, length_both xs ys)

  one_visited : (n : ℕ) (done : List Text) (x : Text) → IsEntryText tail x → routines_length g (visit n g done x) ≤ routines_length g done + 35
  unfolding visit
  one_visited zero done x is = omega arith
  one_visited (suc n) done x is = by (is_among x done) (let none = entry_calls tail is.ticks is.fits in ap (λ y. routine_calls y.routine) is.is ∙ none)
      (entry_length x is)
    where
      by : (b : Bool) → routine_calls x.routine ≡ [] → routine_length g (routine_names g x) x ≤ 35
          → routines_length g (cond b done (visit_all (visit n g) (called_text g x.owner) done (routine_calls x.routine) ++ x ∷ [])) ≤ routines_length g done + 35
      by true none few = omega arith
      by false none few =
          omega (arith, few, ap (λ cs. routines_length g (visit_all (visit n g) (called_text g x.owner) done cs ++ x ∷ [])) none, length_both done (x ∷ []))

  all_visited : (n : ℕ) (xs : List Text) → Every (IsEntryText tail) xs → (done : List Text) → routines_length g (visit_texts n g done xs) ≤ routines_length g done + 35 * length xs
  all_visited n [] all done = omega arith
  all_visited n (x ∷ xs) all done = omega (arith, one_visited n done x all.0, all_visited n xs all.1 (visit n g done x))

-- ---- the texts of the program

record Texts (tail : Name) (xs : List Text) (many : ℕ) : Type 0 where
  entries : Every (IsEntryText tail) xs
  few : length xs ≡ many

module _ (tail : Name) (t : TaskTable) (fits : TableFits t) where
  of_monitor : (m : ℕ) (ticks : List ℕ) → Every TicksFit ticks → Texts tail (texts_of (by_monitor m) (map plain_routine (map (stay_entry tail) ticks))) (length ticks)
  of_monitor m [] fit = record { entries = tt; few = refl }
  of_monitor m (n ∷ ns) fit =
      let rest = of_monitor m ns fit.1 in
      record { entries = (record { monitor = m; ticks = n; fits = fit.0; is = refl }, rest.entries); few = omega (arith, rest.few) }

  of_processes : (k m : ℕ) (ps : List TaskLine) → Texts tail (texts_from k m (map plain_decl (map (λ p. process (table_process tail p)) ps))) 0
  of_processes k m [] = record { entries = tt; few = refl }
  of_processes k m (p ∷ ps) = of_processes (suc k) m ps

  of_monitors : (m : ℕ) (names : List Name) (ps : List TaskLine)
      → Texts tail (texts_from 0 m (map plain_decl (map (λ name. monitor (table_monitor tail t name)) names ++ map (λ p. process (table_process tail p)) ps)))
      (sum_of (λ name. length (stays_in t name)) names)
  of_monitors m [] ps = of_processes 0 m ps
  of_monitors m (name ∷ names) ps =
      let rest = of_monitors (suc m) names ps in
      let first = of_monitor m (stays_in t name) (stays_in_fit t fits name) in
      let entries = texts_of (by_monitor m) (map plain_routine (map (stay_entry tail) (stays_in t name))) in
      let others = texts_from 0 (suc m) (map plain_decl (map (λ n. monitor (table_monitor tail t n)) names ++ map (λ p. process (table_process tail p)) ps)) in
      record { entries = both (IsEntryText tail) entries others first.entries rest.entries; few = omega (arith, first.few, rest.few, length-append entries others) }

  event_texts : (o : Option Name) (ds : List (Decl Nowhere)) → texts_from 0 0 (map plain_decl (event_of o ++ ds)) ≡ texts_from 0 0 (map plain_decl ds)
  event_texts None ds = refl
  event_texts (Some e) ds = refl

  events_texts : (ps : List TaskLine) (ds : List (Decl Nowhere)) → texts_from 0 0 (map plain_decl (flat_map (λ p. event_of p.event) ps ++ ds)) ≡ texts_from 0 0 (map plain_decl ds)
  events_texts [] ds = refl
  events_texts (p ∷ ps) ds =
      ap (λ es. texts_from 0 0 (map plain_decl es)) (append_assoc (event_of p.event) (flat_map (λ q. event_of q.event) ps) ds)
      ∙ event_texts p.event (flat_map (λ q. event_of q.event) ps ++ ds) ∙ events_texts ps ds

  abbrev program : Program
  program = plain (program_with tail t)

  all_texts : Texts tail (texts_from 0 0 program.decls) (sum_of (λ name. length (stays_in t name)) (of_table.monitors t))
  all_texts =
      let ds = map (λ name. monitor (table_monitor tail t name)) (of_table.monitors t) ++ map (λ p. process (table_process tail p)) t.tasks in
      subst (λ xs. Texts tail xs (sum_of (λ name. length (stays_in t name)) (of_table.monitors t))) (sym (events_texts t.tasks ds)) (of_monitors 0 (of_table.monitors t) t.tasks)

  few_routines : routines_length program (numbered program) ≤ 35 * length (stays t)
  unfolding numbered
  few_routines =
      let it = all_texts in
      omega (arith, all_visited tail program (routine_count program) (texts_from 0 0 program.decls) it.entries [], it.few, few_entries t)

  -- ---- processes

  call_short : (o : Option Text) → call_length o (λ ps. 0) ≤ 1
  call_short None = omega arith
  call_short (Some x) = omega arith

  calls_short : (n : Names) (all : List TaskStay) (ss : List (Stmt Nowhere))
      → stmts_length program n (plain_stmts (in_turn (map (stay_call tail) all ++ ss))) ≤ length all + stmts_length program n (plain_stmts (in_turn ss))
  calls_short n [] ss = omega arith
  calls_short n (s ∷ all) ss = omega (arith, calls_short n all ss, call_short (entry_in program s.monitor (stay_name s.ticks ++ tail)))

  process_short : (k : ℕ) (line : TaskLine) → slice_get t.tasks k ≡ Some line → LineFits line
      → process_length program (process_names program k (plain_process (table_process tail line))) (plain_process (table_process tail line)) ≤ length line.stays + 33
  process_short k line there fit =
      let left = line.cost - least_cost line in
      let p = plain_process (table_process tail line) in
      let own = process_word tail program k p (process_there tail t k line there) refl in
      let names = process_names program k p in
      omega (arith, calls_short names line.stays (spend tail left), short program names tail own left (spend tail left) (spent tail left fit.met (omega (arith, fit.cost_few))))

  processes_short : (k : ℕ) (ps : List TaskLine) → ((i : ℕ) (line : TaskLine) → slice_get ps i ≡ Some line → slice_get t.tasks (k + i) ≡ Some line) → Every LineFits ps
      → processes_length program k (map (λ p. plain_process (table_process tail p)) ps) ≤ sum_of (λ p. length p.stays) ps + 33 * length ps
  processes_short k [] there fit = omega arith
  processes_short k (p ∷ ps) there fit =
      let here = subst (λ n. slice_get t.tasks n ≡ Some p) (let e : k + 0 ≡ k = omega arith in e) (there 0 p refl) in
      let more = processes_short (suc k) ps (λ i line is. subst (λ n. slice_get t.tasks n ≡ Some line) (let e : k + suc i ≡ suc k + i = omega arith in e) (there (suc i) line is)) fit.1 in
      omega (arith, process_short k p here fit.0, more)

  length-stays : (ps : List TaskLine) → length (flat_map (λ p. p.stays) ps) ≡ sum_of (λ p. length p.stays) ps
  length-stays [] = omega arith
  length-stays (p ∷ ps) = omega (arith, length-stays ps, length-append p.stays (flat_map (λ q. q.stays) ps))

  pub few_instructions : code_length program ≤ 36 * length (stays t) + 33 * length t.tasks
  few_instructions =
      let one = ap (λ ps. processes_length program 0 ps) (processes_are tail t) in
      let two = processes_short 0 t.tasks (λ i line is. subst (λ n. slice_get t.tasks n ≡ Some line) (let e : i ≡ 0 + i = omega arith in e) is) fits.tasks in
      omega (arith, few_routines, one, two, length-stays t.tasks)
