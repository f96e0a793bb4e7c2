-- Each line of a table's program has a word.
use Rattle.std.proofs.Common.{◌≡◌, ◌-◌, ◌≤◌, ℕ, List, [], ◌∷◌, ◌++◌, Option, Some, None, map, sym, subst, append_assoc, arith}
use Rattle.std.specs.Prelude.{flat_map}
use Rattle.syntax_tree.specs.Plain.{Name}
use Rattle.syntax_tree.specs.Placed.{Stmt, Decl, monitor, process}
use Rattle.syntax_printer.specs.Canonical.{Line, stmts_lines, lines_of, entry_lines, process_lines, monitor_lines, decl_lines, end_line, program_lines}
use Rattle.table_format.specs.declared.table.TaskStay.{TaskStay}
use Rattle.table_format.specs.declared.table.TaskLine.{TaskLine}
use Rattle.table_format.specs.declared.table.TaskTable.{TaskTable}
use Rattle.table_format.specs.Rules.{monitors, least_cost}
use Rattle.table_format.specs.Spending.{Nowhere, in_turn, spend}
use Rattle.table_format.specs.Program.{stay_name, stay_entry, stays_in, table_monitor, stay_call, table_process, event_of, program_with}
use Rattle.table_law.proofs.Spends.{Spends, nothing, by_three, by_four, by_five, by_short, by_long, spent}
use Rattle.table_law.proofs.Lists.{Every, both}
use Rattle.table_law.proofs.Fits.{TicksFit, LineFits, TableFits, stays_in_fit}
use Rattle.table_law.proofs.Weights.{HasWord}

spending : (tail : Name) (n : ℕ) (ss : List (Stmt Nowhere)) → Spends tail n ss → Every HasWord (stmts_lines (in_turn ss))
spending tail n ss nothing = tt
spending tail n ss (by_three m _ more is few spends) = (tt, spending tail m more spends)
spending tail n ss (by_four m _ more is few spends) = (tt, spending tail m more spends)
spending tail n ss (by_five m _ more is few spends) = (tt, spending tail m more spends)
spending tail n ss (by_short turns m _ more is some few least most spends) = (tt, (tt, spending tail m more spends))
spending tail n ss (by_long turns m _ more is some few least most spends) = (tt, (tt, (tt, (tt, spending tail m more spends))))

calling : (tail : Name) (stays : List TaskStay) (ss : List (Stmt Nowhere)) → Every HasWord (stmts_lines (in_turn ss)) → Every HasWord (stmts_lines (in_turn (map (stay_call tail) stays ++ ss)))
calling tail [] ss all = all
calling tail (s ∷ stays) ss all = (tt, calling tail stays ss all)

one_process : (tail : Name) (p : TaskLine) → LineFits p → Every HasWord (process_lines (table_process tail p))
one_process tail p fits =
    let left = p.cost - least_cost p in
    let body = calling tail p.stays (spend tail left) (spending tail left (spend tail left) (spent tail left fits.met (omega (arith, fits.cost_few)))) in
    (tt, (tt, (tt, both HasWord (stmts_lines (in_turn (map (stay_call tail) p.stays ++ spend tail left))) (end_line p.name ∷ []) body (tt, tt))))

all_processes : (tail : Name) (ps : List TaskLine) → Every LineFits ps → Every HasWord (lines_of decl_lines (map (λ p. process (table_process tail p)) ps))
all_processes tail [] fits = tt
all_processes tail (p ∷ ps) fits =
    both HasWord (process_lines (table_process tail p)) (lines_of decl_lines (map (λ q. process (table_process tail q)) ps)) (one_process tail p fits.0) (all_processes tail ps fits.1)

one_entry : (tail : Name) (ticks : ℕ) → TicksFit ticks → Every HasWord (entry_lines (stay_entry tail ticks))
one_entry tail ticks fits =
    let left = ticks - 3 in
    let body = spending tail left (spend tail left) (spent tail left fits.met (omega (arith, fits.few))) in
    (tt, (tt, (tt, both HasWord (stmts_lines (in_turn (spend tail left))) (end_line (stay_name ticks ++ tail) ∷ []) body (tt, tt))))

all_entries : (tail : Name) (ticks : List ℕ) → Every TicksFit ticks → Every HasWord (lines_of entry_lines (map (stay_entry tail) ticks))
all_entries tail [] fits = tt
all_entries tail (n ∷ ns) fits =
    both HasWord (entry_lines (stay_entry tail n)) (lines_of entry_lines (map (stay_entry tail) ns)) (one_entry tail n fits.0) (all_entries tail ns fits.1)

module _ (tail : Name) (t : TaskTable) (fits : TableFits t) where
  one_monitor : (name : Name) → Every HasWord (monitor_lines (table_monitor tail t name))
  one_monitor name =
      (tt, both HasWord (lines_of entry_lines (map (stay_entry tail) (stays_in t name))) (end_line name ∷ []) (all_entries tail (stays_in t name) (stays_in_fit t fits name)) (tt, tt))

  all_monitors : (names : List Name) (ds : List (Decl Nowhere)) → Every HasWord (lines_of decl_lines ds) → Every HasWord (lines_of decl_lines (map (λ name. monitor (table_monitor tail t name)) names ++ ds))
  all_monitors [] ds rest = rest
  all_monitors (name ∷ names) ds rest =
      both HasWord (monitor_lines (table_monitor tail t name)) (lines_of decl_lines (map (λ n. monitor (table_monitor tail t n)) names ++ ds)) (one_monitor name) (all_monitors names ds rest)

  one_event : (o : Option Name) (ds : List (Decl Nowhere)) → Every HasWord (lines_of decl_lines ds) → Every HasWord (lines_of decl_lines (event_of o ++ ds))
  one_event None ds rest = rest
  one_event (Some e) ds rest = (tt, rest)

  all_events : (ps : List TaskLine) (ds : List (Decl Nowhere)) → Every HasWord (lines_of decl_lines ds) → Every HasWord (lines_of decl_lines (flat_map (λ p. event_of p.event) ps ++ ds))
  all_events [] ds rest = rest
  all_events (p ∷ ps) ds rest =
      let more = flat_map (λ q. event_of q.event) ps in
      subst (λ es. Every HasWord (lines_of decl_lines es)) (sym (append_assoc (event_of p.event) more ds)) (one_event p.event (more ++ ds) (all_events ps ds rest))

  pub have_words : Every HasWord (program_lines (program_with tail t))
  have_words =
      let processes = map (λ p. process (table_process tail p)) t.tasks in
      let three = all_processes tail t.tasks fits.tasks in
      let two = all_monitors (monitors t) processes three in
      let one = all_events t.tasks (map (λ name. monitor (table_monitor tail t name)) (monitors t) ++ processes) two in
      (tt, both HasWord (lines_of decl_lines (program_with tail t).decls) (end_line t.name ∷ []) one (tt, tt))
