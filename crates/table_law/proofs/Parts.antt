-- The processes and monitors of a table's program, and how many routines it has.
use Rattle.std.proofs.Common.{◌≡◌, ◌≤◌, ◌+◌, ℕ, zero, suc, inl, inr, List, [], ◌∷◌, ◌++◌, Option, Some, None, length, map, fold, refl, ap, sym, ◌∙◌, subst, append_assoc, arith}
use Rattle.std.specs.Prelude.{filter_map, flat_map, slice_get}
use Rattle.syntax_tree.specs.Plain as plain_of
use Rattle.syntax_tree.specs.Plain.{Name}
use Rattle.syntax_tree.specs.Placed.{Decl, event, monitor, process, plain, plain_decl, plain_monitor, plain_routine, plain_process}
use Rattle.source_semantics.specs.Names.{processes, process_in, monitors, monitor_in, routines_in, routine_count}
use Rattle.table_format.specs.declared.table.TaskLine.{TaskLine}
use Rattle.table_format.specs.declared.table.TaskTable.{TaskTable}
use Rattle.table_format.specs.Rules as of_table
use Rattle.table_format.specs.Spending.{Nowhere}
use Rattle.table_format.specs.Program.{table_monitor, table_process, event_of, program_with}
use Rattle.table_law.proofs.Members.{Elem, elem_left, elem_right, elem_map}

module _ (tail : Name) (t : TaskTable) where
  abbrev pub mon : Name → plain_of.Monitor
  mon name = plain_monitor (table_monitor tail t name)

  abbrev monitor_decls : List Name → List (Decl Nowhere)
  monitor_decls names = map (λ name. monitor (table_monitor tail t name)) names

  abbrev process_decls : List TaskLine → List (Decl Nowhere)
  process_decls ps = map (λ p. process (table_process tail p)) ps

  abbrev event_decls : List TaskLine → List (Decl Nowhere)
  event_decls ps = flat_map (λ p. event_of p.event) ps

  -- ---- processes

  processes_event : (o : Option Name) (ds : List (Decl Nowhere)) → filter_map process_in (map plain_decl (event_of o ++ ds)) ≡ filter_map process_in (map plain_decl ds)
  processes_event None ds = refl
  processes_event (Some e) ds = refl

  processes_events : (ps : List TaskLine) (ds : List (Decl Nowhere)) → filter_map process_in (map plain_decl (event_decls ps ++ ds)) ≡ filter_map process_in (map plain_decl ds)
  processes_events [] ds = refl
  processes_events (p ∷ ps) ds =
      ap (λ es. filter_map process_in (map plain_decl es)) (append_assoc (event_of p.event) (event_decls ps) ds)
      ∙ processes_event p.event (event_decls ps ++ ds) ∙ processes_events ps ds

  processes_monitors : (names : List Name) (ds : List (Decl Nowhere)) → filter_map process_in (map plain_decl (monitor_decls names ++ ds)) ≡ filter_map process_in (map plain_decl ds)
  processes_monitors [] ds = refl
  processes_monitors (name ∷ names) ds = processes_monitors names ds

  processes_processes : (ps : List TaskLine) → filter_map process_in (map plain_decl (process_decls ps)) ≡ map (λ p. plain_process (table_process tail p)) ps
  processes_processes [] = refl
  processes_processes (p ∷ ps) = ap (λ (qs : List plain_of.Process). plain_process (table_process tail p) ∷ qs) (processes_processes ps)

  pub processes_are : processes (plain (program_with tail t)) ≡ map (λ p. plain_process (table_process tail p)) t.tasks
  processes_are =
      processes_events t.tasks (monitor_decls (of_table.monitors t) ++ process_decls t.tasks) ∙ processes_monitors (of_table.monitors t) (process_decls t.tasks) ∙ processes_processes t.tasks

  got : (ps : List TaskLine) (k : ℕ) (line : TaskLine) → slice_get ps k ≡ Some line
      → slice_get (map (λ p. plain_process (table_process tail p)) ps) k ≡ Some (plain_process (table_process tail line))
  got [] k line is = absurd cc
  got (p ∷ ps) zero line is = (let same : p ≡ line = cc in ap (λ q. Some (plain_process (table_process tail q))) same)
  got (p ∷ ps) (suc k) line is = got ps k line is

  pub process_there : (k : ℕ) (line : TaskLine) → slice_get t.tasks k ≡ Some line → slice_get (processes (plain (program_with tail t))) k ≡ Some (plain_process (table_process tail line))
  process_there k line is = ap (λ (qs : List plain_of.Process). slice_get qs k) processes_are ∙ got t.tasks k line is

  -- ---- monitors

  monitors_event : (o : Option Name) (ds : List (Decl Nowhere)) → filter_map monitor_in (map plain_decl (event_of o ++ ds)) ≡ filter_map monitor_in (map plain_decl ds)
  monitors_event None ds = refl
  monitors_event (Some e) ds = refl

  monitors_events : (ps : List TaskLine) (ds : List (Decl Nowhere)) → filter_map monitor_in (map plain_decl (event_decls ps ++ ds)) ≡ filter_map monitor_in (map plain_decl ds)
  monitors_events [] ds = refl
  monitors_events (p ∷ ps) ds =
      ap (λ es. filter_map monitor_in (map plain_decl es)) (append_assoc (event_of p.event) (event_decls ps) ds)
      ∙ monitors_event p.event (event_decls ps ++ ds) ∙ monitors_events ps ds

  monitors_processes : (ps : List TaskLine) → filter_map monitor_in (map plain_decl (process_decls ps)) ≡ []
  monitors_processes [] = refl
  monitors_processes (p ∷ ps) = monitors_processes ps

  monitors_monitors : (names : List Name) (ds : List (Decl Nowhere)) → filter_map monitor_in (map plain_decl ds) ≡ []
      → filter_map monitor_in (map plain_decl (monitor_decls names ++ ds)) ≡ map plain_monitor (map (table_monitor tail t) names)
  monitors_monitors [] ds rest = rest
  monitors_monitors (name ∷ names) ds rest = ap (λ (ms : List plain_of.Monitor). mon name ∷ ms) (monitors_monitors names ds rest)

  pub monitors_are : monitors (plain (program_with tail t)) ≡ map plain_monitor (map (table_monitor tail t) (of_table.monitors t))
  monitors_are =
      monitors_events t.tasks (monitor_decls (of_table.monitors t) ++ process_decls t.tasks)
      ∙ monitors_monitors (of_table.monitors t) (process_decls t.tasks) (monitors_processes t.tasks)

  -- ---- routines

  more_counted : (ds : List plain_of.Declaration) (a : ℕ) → a ≤ fold (λ n d. n + routines_in d) a ds
  more_counted [] a = omega arith
  more_counted (d ∷ ds) a = omega (arith, more_counted ds (a + routines_in d))

  counted : (ds : List plain_of.Declaration) (d : plain_of.Declaration) → Elem d ds → (a : ℕ) → a + routines_in d ≤ fold (λ n d. n + routines_in d) a ds
  counted [] d e a = absurd e
  counted (c ∷ ds) d (inl is) a = omega (arith, more_counted ds (a + routines_in c), ap routines_in is)
  counted (c ∷ ds) d (inr e) a = omega (arith, counted ds d e (a + routines_in c))

  monitor_decl : (name : Name) (names : List Name) → Elem name names → Elem (plain_of.monitor (mon name)) (map plain_decl (monitor_decls names))
  monitor_decl name [] e = absurd e
  monitor_decl name (n ∷ names) (inl is) = inl (ap (λ m. plain_of.monitor (mon m)) is)
  monitor_decl name (n ∷ names) (inr e) = inr (monitor_decl name names e)

  map_both : (xs ys : List (Decl Nowhere)) → map plain_decl (xs ++ ys) ≡ map plain_decl xs ++ map plain_decl ys
  map_both [] ys = refl
  map_both (x ∷ xs) ys = ap (λ (zs : List plain_of.Declaration). plain_decl x ∷ zs) (map_both xs ys)

  pub routines_counted : (name : Name) → Elem name (of_table.monitors t) → length (mon name).entries ≤ routine_count (plain (program_with tail t))
  routines_counted name e =
      let one = monitor_decl name (of_table.monitors t) e in
      let two = elem_left (plain_of.monitor (mon name)) (map plain_decl (monitor_decls (of_table.monitors t))) (map plain_decl (process_decls t.tasks)) one in
      let three = subst (λ ds. Elem (plain_of.monitor (mon name)) ds) (sym (map_both (monitor_decls (of_table.monitors t)) (process_decls t.tasks))) two in
      let four = elem_right (plain_of.monitor (mon name)) (map plain_decl (event_decls t.tasks)) (map plain_decl (monitor_decls (of_table.monitors t) ++ process_decls t.tasks)) three in
      let five = subst (λ ds. Elem (plain_of.monitor (mon name)) ds) (sym (map_both (event_decls t.tasks) (monitor_decls (of_table.monitors t) ++ process_decls t.tasks))) four in
      omega (arith, counted (plain (program_with tail t)).decls (plain_of.monitor (mon name)) five 0)
