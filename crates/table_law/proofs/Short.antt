-- The length of the text of a table's program.
use Rattle.std.proofs.Common.{◌≡◌, ◌≤◌, ◌<◌, ◌+◌, ◌-◌, ◌*◌, ◌^◌, ℕ, zero, suc, List, [], ◌∷◌, ◌++◌, Option, Some, None, codes, decimal, length, length-append, map, sym, ap, subst, append_assoc, arith}
use Rattle.std.specs.Prelude.{flat_map, option_map}
use Rattle.std.proofs.lemmas.Fmt.{length-decimal-le}
use Rattle.syntax_tree.specs.Plain.{Name}
use Rattle.syntax_tree.specs.Placed.{Stmt, Decl, monitor, process}
use Rattle.syntax.specs.Words as w
use Rattle.syntax.specs.Words.{Word, named, number}
use Rattle.syntax_reading.specs.TreeWords.{stmts_words, activation_words, deadline_words, first_words, process_words, decl_words, each_words, entry_words, optional_words, monitor_words, prog_words}
use Rattle.table_format.specs.declared.table.TaskStay.{TaskStay}
use Rattle.table_format.specs.declared.table.TaskLine.{TaskLine}
use Rattle.table_format.specs.declared.table.TaskTable.{TaskTable}
use Rattle.table_format.specs.Rules.{IsName, monitors, stays, least_cost}
use Rattle.table_format.specs.Spending.{Nowhere, of_number, of_x, in_turn, spend}
use Rattle.table_format.specs.Program.{stay_name, stay_entry, stays_in, table_monitor, activation_of, stay_call, table_process, event_of, program_with}
use Rattle.table_law.proofs.Spends.{Spends, nothing, by_three, by_four, by_five, by_short, by_long, spent}
use Rattle.table_law.proofs.Lists.{Every}
use Rattle.table_law.proofs.Few.{sum_of}
use Rattle.table_law.proofs.Fits.{TicksFit, StayFits, OptionFits, EventFits, LineFits, TableFits, monitors_fit, stays_in_fit}
use Rattle.table_law.proofs.Weights.{weight}

-- how long the made names are
pub record MadeShort (tail : Name) : Type 0 where
  pub x : length (of_x tail) ≤ 5
  pub i : length (codes "i" ++ tail) ≤ 5
  pub j : length (codes "j" ++ tail) ≤ 5
  pub stay : (ticks : ℕ) → ticks ≤ 1000000000 → length (stay_name ticks ++ tail) ≤ 18

digits : (k n : ℕ) → 0 < k → n < 10 ^ k → n ≤ 1000000000 → length (decimal n) ≤ k
digits k n some low few = length-decimal-le k n some low (omega (arith, few))

ten_digits : (n : ℕ) → n ≤ 1000000000 → length (decimal n) ≤ 10
ten_digits n few = digits 10 n (omega arith) (omega (arith, few)) few

zero_digits : length (decimal 0) ≤ 1
zero_digits = digits 1 0 (omega arith) (omega arith) (omega arith)

one_digits : length (decimal 1) ≤ 1
one_digits = digits 1 1 (omega arith) (omega arith) (omega arith)

thousand_digits : length (decimal 1000) ≤ 4
thousand_digits = digits 4 1000 (omega arith) (omega arith) (omega arith)

module _ (tail : Name) (made : MadeShort tail) where
  -- four bytes a tick at most
  by_ticks : (n : ℕ) (ss : List (Stmt Nowhere)) → Spends tail n ss → (ws : List Word) → weight (stmts_words (in_turn ss) ws) ≤ 4 * n + weight ws
  by_ticks n ss nothing ws = omega arith
  by_ticks n ss (by_three m _ more is few spends) ws = omega (arith, is, made.x, zero_digits, by_ticks m more spends ws)
  by_ticks n ss (by_four m _ more is few spends) ws = omega (arith, is, made.x, by_ticks m more spends ws)
  by_ticks n ss (by_five m _ more is few spends) ws = omega (arith, is, made.x, one_digits, by_ticks m more spends ws)
  by_ticks n ss (by_short turns m _ more is some few least most spends) ws =
      omega (arith, is, some, made.i, one_digits, digits 4 turns (omega arith) (omega (arith, few)) (omega (arith, few)), by_ticks m more spends ws)
  by_ticks n ss (by_long turns m _ more is some few least most spends) ws =
      omega (arith, is, some, made.i, made.j, one_digits, thousand_digits, digits 5 turns (omega arith) (omega (arith, few)) (omega (arith, few)), by_ticks m more spends ws)

  short_part : (n : ℕ) (ss : List (Stmt Nowhere)) → n ≤ 10022 → Spends tail n ss → (ws : List Word) → weight (stmts_words (in_turn ss) ws) ≤ 81 + weight ws
  short_part n ss low nothing ws = omega arith
  short_part n ss low (by_three m k more is few spends) ws = omega (arith, few, by_ticks k ss (by_three m k more is few spends) ws)
  short_part n ss low (by_four m k more is few spends) ws = omega (arith, few, by_ticks k ss (by_four m k more is few spends) ws)
  short_part n ss low (by_five m k more is few spends) ws = omega (arith, few, by_ticks k ss (by_five m k more is few spends) ws)
  short_part n ss low (by_short turns m _ more is some few least most spends) ws =
      omega (arith, most, made.i, one_digits, digits 4 turns (omega arith) (omega (arith, few)) (omega (arith, few)), by_ticks m more spends ws)
  short_part n ss low (by_long turns m _ more is some few least most spends) ws = absurd (omega (arith, is, some, least, low))

  spending : (n : ℕ) (ss : List (Stmt Nowhere)) → Spends tail n ss → (ws : List Word) → weight (stmts_words (in_turn ss) ws) ≤ 148 + weight ws
  spending n ss nothing ws = omega arith
  spending n ss (by_three m k more is few spends) ws = omega (arith, few, by_ticks k ss (by_three m k more is few spends) ws)
  spending n ss (by_four m k more is few spends) ws = omega (arith, few, by_ticks k ss (by_four m k more is few spends) ws)
  spending n ss (by_five m k more is few spends) ws = omega (arith, few, by_ticks k ss (by_five m k more is few spends) ws)
  spending n ss (by_short turns m _ more is some few least most spends) ws =
      omega (arith, most, made.i, one_digits, digits 4 turns (omega arith) (omega (arith, few)) (omega (arith, few)), by_ticks m more spends ws)
  spending n ss (by_long turns m _ more is some few least most spends) ws =
      omega (arith, made.i, made.j, one_digits, thousand_digits, digits 5 turns (omega arith) (omega (arith, few)) (omega (arith, few)), short_part m more (omega (arith, most)) spends ws)

  calling : (all : List TaskStay) (ss : List (Stmt Nowhere)) → Every StayFits all → ((ws : List Word) → weight (stmts_words (in_turn ss) ws) ≤ 148 + weight ws)
      → (ws : List Word) → weight (stmts_words (in_turn (map (stay_call tail) all ++ ss)) ws) ≤ 89 * length all + 148 + weight ws
  calling [] ss fits behind ws = omega (arith, behind ws)
  calling (s ∷ all) ss fits behind ws = omega (arith, fits.0.monitor.2, made.stay s.ticks fits.0.ticks.few, calling all ss fits.1 behind ws)

  -- ---- processes

  deadline : (high : ℕ) (o : Option ℕ) → high ≤ 1000000000 → OptionFits 10 high o → (ws : List Word) → weight (optional_words deadline_words (option_map of_number o) ws) ≤ 20 + weight ws
  deadline high None few fits ws = omega arith
  deadline high (Some n) few fits ws = omega (arith, ten_digits n (omega (arith, few, fits.1)))

  first : (o : Option ℕ) → OptionFits 0 1000000000 o → (ws : List Word) → weight (optional_words first_words (option_map of_number o) ws) ≤ 35 + weight ws
  first None fits ws = omega arith
  first (Some n) fits ws = omega (arith, ten_digits n fits.1)

  activated : (p : TaskLine) → LineFits p → (o : Option Name) → EventFits o → (ws : List Word) → weight (activation_words (activation_of p o) ws) ≤ 109 + weight ws
  activated p fits None event ws =
      omega (
        arith,
        ten_digits p.frame fits.frame_few,
        first p.first fits.first ws,
        deadline p.frame p.deadline fits.frame_few fits.deadline (optional_words first_words (option_map of_number p.first) ws),
      )
  activated p fits (Some e) event ws = omega (arith, event.2, ten_digits p.frame fits.frame_few, deadline p.frame p.deadline fits.frame_few fits.deadline ws)

  one_process : (p : TaskLine) → LineFits p → (ws : List Word) → weight (process_words (table_process tail p) ws) ≤ 89 * length p.stays + 421 + weight ws
  one_process p fits ws =
      let left = p.cost - least_cost p in
      let spends = spending left (spend tail left) (spent tail left fits.met (omega (arith, fits.cost_few))) in
      let behind = w.END ∷ named p.name ∷ ws in
      let statements = stmts_words (in_turn (map (stay_call tail) p.stays ++ spend tail left)) behind in
      let body = calling p.stays (spend tail left) fits.stays spends behind in
      omega (arith, fits.name.2, made.x, body, activated p fits p.event fits.event (w.VAR ∷ named (of_x tail) ∷ w.COLON ∷ w.INT ∷ w.BEGIN ∷ statements))

  all_processes : (ps : List TaskLine) → Every LineFits ps → (ws : List Word)
      → weight (each_words decl_words (map (λ p. process (table_process tail p)) ps) ws) ≤ 89 * sum_of (λ p. length p.stays) ps + 421 * length ps + weight ws
  all_processes [] fits ws = omega arith
  all_processes (p ∷ ps) fits ws =
      omega (arith, all_processes ps fits.1 ws, one_process p fits.0 (each_words decl_words (map (λ q. process (table_process tail q)) ps) ws))

  -- ---- monitors

  one_entry : (ticks : ℕ) → TicksFit ticks → (ws : List Word) → weight (entry_words (stay_entry tail ticks) ws) ≤ 232 + weight ws
  one_entry ticks fits ws =
      let left = ticks - 3 in
      let body = spending left (spend tail left) (spent tail left fits.met (omega (arith, fits.few))) (w.END ∷ named (stay_name ticks ++ tail) ∷ ws) in
      omega (arith, made.x, made.stay ticks fits.few, body)

  all_entries : (ticks : List ℕ) → Every TicksFit ticks → (ws : List Word) → weight (each_words entry_words (map (stay_entry tail) ticks) ws) ≤ 232 * length ticks + weight ws
  all_entries [] fits ws = omega arith
  all_entries (n ∷ ns) fits ws = omega (arith, all_entries ns fits.1 ws, one_entry n fits.0 (each_words entry_words (map (stay_entry tail) ns) ws))

  module _ (t : TaskTable) (fits : TableFits t) where
    one_monitor : (name : Name) → IsName name → (ws : List Word) → weight (monitor_words (table_monitor tail t name) ws) ≤ 232 * length (stays_in t name) + 140 + weight ws
    one_monitor name is ws = omega (arith, is.2, all_entries (stays_in t name) (stays_in_fit t fits name) (w.END ∷ named name ∷ ws))

    all_monitors : (names : List Name) → Every IsName names → (ds : List (Decl Nowhere)) (ws : List Word)
        → weight (each_words decl_words (map (λ name. monitor (table_monitor tail t name)) names ++ ds) ws)
        ≤ 232 * sum_of (λ name. length (stays_in t name)) names + 140 * length names + weight (each_words decl_words ds ws)
    all_monitors [] are ds ws = omega arith
    all_monitors (name ∷ names) are ds ws =
        omega (arith, all_monitors names are.1 ds ws, one_monitor name are.0 (each_words decl_words (map (λ n. monitor (table_monitor tail t n)) names ++ ds) ws))

    one_event : (o : Option Name) → EventFits o → (ds : List (Decl Nowhere)) (ws : List Word) → weight (each_words decl_words (event_of o ++ ds) ws) ≤ 70 + weight (each_words decl_words ds ws)
    one_event None is ds ws = omega arith
    one_event (Some e) is ds ws = omega (arith, is.2)

    all_events : (ps : List TaskLine) → Every LineFits ps → (ds : List (Decl Nowhere)) (ws : List Word)
        → weight (each_words decl_words (flat_map (λ p. event_of p.event) ps ++ ds) ws) ≤ 70 * length ps + weight (each_words decl_words ds ws)
    all_events [] are ds ws = omega arith
    all_events (p ∷ ps) are ds ws =
        let more = flat_map (λ q. event_of q.event) ps in
        let same = ap (λ es. weight (each_words decl_words es ws)) (append_assoc (event_of p.event) more ds) in
        omega (arith, same, one_event p.event are.0.event (more ++ ds) ws, all_events ps are.1 ds ws)

    pub of_program : weight (prog_words (program_with tail t))
        ≤ 89 * sum_of (λ p. length p.stays) t.tasks + 491 * length t.tasks + 232 * sum_of (λ name. length (stays_in t name)) (monitors t) + 140 * length (monitors t) + 140
    of_program =
        let behind = w.END ∷ named t.name ∷ [] in
        let processes = map (λ p. process (table_process tail p)) t.tasks in
        let others = map (λ name. monitor (table_monitor tail t name)) (monitors t) ++ processes in
        omega (arith, fits.name.2, all_processes t.tasks fits.tasks behind, all_monitors (monitors t) (monitors_fit t fits) processes behind, all_events t.tasks fits.tasks others behind)
