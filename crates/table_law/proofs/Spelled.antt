-- Each word of a table's program is spelled as a token is.
use Rattle.std.proofs.Common.{◌≤◌, ◌+◌, ◌-◌, ◌*◌, ◌<◌, ◌^◌, ◌≡◌, ℕ, true, false, not, bytes_eq, List, [], ◌∷◌, ◌++◌, Option, Some, None, codes, map, sym, subst, append_assoc, refl, arith}
use Rattle.std.specs.Prelude.{Contains, flat_map, option_map}
use Rattle.syntax_tree.specs.Plain.{Name}
use Rattle.syntax_tree.specs.Placed.{Stmt, Decl, monitor, process}
use Rattle.std.specs.List.{list_all}
use Rattle.syntax.specs.Spellings.{keywords}
use Rattle.syntax.proofs.SpellLemmas.{listed}
use Rattle.syntax.specs.Words as w
use Rattle.syntax.specs.Words.{Word, named, number}
use Rattle.syntax_reading.specs.TreeWords.{stmts_words, activation_words, deadline_words, first_words, process_words, decl_words, each_words, entry_words, optional_words, monitor_words, prog_words}
use Rattle.syntax_printer.proofs.Spelled.{IsSpelled, AreSpelled, decimal_reads}
use Rattle.table_format.specs.declared.table.TaskStay.{TaskStay}
use Rattle.table_format.specs.declared.table.TaskLine.{TaskLine}
use Rattle.table_format.specs.declared.table.TaskTable.{TaskTable}
use Rattle.table_format.specs.Rules.{IsName, monitors, least_cost}
use Rattle.table_format.specs.Spending.{Nowhere, of_number, of_x, in_turn, spend}
use Rattle.table_format.specs.Program.{stay_name, stay_entry, stays_in, table_monitor, activation_of, stay_call, table_process, event_of, program_with}
use Rattle.table_law.proofs.Spends.{Spends, nothing, by_three, by_four, by_five, by_short, by_long, spent}
use Rattle.table_law.proofs.Lists.{Every}
use Rattle.table_law.proofs.Fits.{TicksFit, StayFits, OptionFits, EventFits, LineFits, TableFits, monitors_fit, stays_in_fit}

pub number_spelled : (n : ℕ) → n ≤ 2147483647 → IsSpelled (number n)
number_spelled n low = let it = decimal_reads n (omega arith) in (it.are, it.value, low)

-- `deadline` is no keyword
no_keyword : (name : List ℕ) → list_all (λ k. not (bytes_eq k name)) keywords ≡ true → not (bytes_eq name name) ≡ false → ¬ Contains keywords name
no_keyword name none same has = let other = listed (λ k. not (bytes_eq k name)) keywords name none has in cc

word_deadline : IsSpelled w.DEADLINE
word_deadline = (refl, no_keyword (codes "deadline") refl refl, omega arith)

-- the made names are names
pub record MadeSpelled (tail : Name) : Type 0 where
  pub x : IsSpelled (named (of_x tail))
  pub i : IsSpelled (named (codes "i" ++ tail))
  pub j : IsSpelled (named (codes "j" ++ tail))
  pub stay : (ticks : ℕ) → ticks ≤ 1000000000 → IsSpelled (named (stay_name ticks ++ tail))

module _ (tail : Name) (made : MadeSpelled tail) where
  spending : (n : ℕ) (ss : List (Stmt Nowhere)) → Spends tail n ss → (ws : List Word) → AreSpelled ws → AreSpelled (stmts_words (in_turn ss) ws)
  spending n ss nothing ws rest = rest
  spending n ss (by_three m _ more is few spends) ws rest = (made.x, (refl, (number_spelled 0 (omega arith), spending m more spends ws rest)))
  spending n ss (by_four m _ more is few spends) ws rest = (made.x, (refl, (made.x, spending m more spends ws rest)))
  spending n ss (by_five m _ more is few spends) ws rest = (made.x, (refl, (refl, (number_spelled 1 (omega arith), spending m more spends ws rest))))
  spending n ss (by_short turns m _ more is some few least most spends) ws rest =
      (refl, (made.i, (refl, (number_spelled 1 (omega arith), (refl, (number_spelled turns (omega (arith, few)), (refl, (refl, (refl, spending m more spends ws rest)))))))))
  spending n ss (by_long turns m _ more is some few least most spends) ws rest = (
    refl,
    (
      made.i,
      (
        refl,
        (
          number_spelled 1 (omega arith),
          (
            refl,
            (
              number_spelled turns (omega (arith, few)),
              (
                refl,
                (
                  refl,
                  (
                    made.j,
                    (
                      refl,
                      (
                        number_spelled 1 (omega arith),
                        (
                          refl,
                          (
                            number_spelled 1000 (omega arith),
                            (
                              refl,
                              (
                                refl,
                                (
                                  refl,
                                  (refl, (refl, spending m more spends ws rest)),
                                ),
                              ),
                            ),
                          ),
                        ),
                      ),
                    ),
                  ),
                ),
              ),
            ),
          ),
        ),
      ),
    ),
  )

  calling : (stays : List TaskStay) (ss : List (Stmt Nowhere)) → Every StayFits stays → ((ws : List Word) → AreSpelled ws → AreSpelled (stmts_words (in_turn ss) ws))
      → (ws : List Word) → AreSpelled ws → AreSpelled (stmts_words (in_turn (map (stay_call tail) stays ++ ss)) ws)
  calling [] ss fits behind ws rest = behind ws rest
  calling (s ∷ stays) ss fits behind ws rest =
      (fits.0.monitor, (refl, (made.stay s.ticks fits.0.ticks.few, (refl, (refl, calling stays ss fits.1 behind ws rest)))))

  -- ---- processes

  deadline : (high : ℕ) (o : Option ℕ) → high ≤ 1000000000 → OptionFits 10 high o → (ws : List Word) → AreSpelled ws → AreSpelled (optional_words deadline_words (option_map of_number o) ws)
  deadline high None few fits ws rest = rest
  deadline high (Some n) few fits ws rest = (word_deadline, (number_spelled n (omega (arith, few, fits.1)), rest))

  first : (o : Option ℕ) → OptionFits 0 1000000000 o → (ws : List Word) → AreSpelled ws → AreSpelled (optional_words first_words (option_map of_number o) ws)
  first None fits ws rest = rest
  first (Some n) fits ws rest = (refl, (refl, (refl, (number_spelled n (omega (arith, fits.1)), rest))))

  activated : (p : TaskLine) → LineFits p → (o : Option Name) → EventFits o → (ws : List Word) → AreSpelled ws → AreSpelled (activation_words (activation_of p o) ws)
  activated p fits None event ws rest = (
    refl,
    (
      refl,
      (
        number_spelled p.frame (omega (arith, fits.frame_few)),
        deadline p.frame p.deadline fits.frame_few fits.deadline (optional_words first_words (option_map of_number p.first) ws) (first p.first fits.first ws rest),
      ),
    ),
  )
  activated p fits (Some e) event ws rest =
      (refl, (event, (refl, (number_spelled p.frame (omega (arith, fits.frame_few)), deadline p.frame p.deadline fits.frame_few fits.deadline ws rest))))

  one_process : (p : TaskLine) → LineFits p → (ws : List Word) → AreSpelled ws → AreSpelled (process_words (table_process tail p) ws)
  one_process p fits ws rest =
      let left = p.cost - least_cost p in
      let spends = spending left (spend tail left) (spent tail left fits.met (omega (arith, fits.cost_few))) in
      let body = calling p.stays (spend tail left) fits.stays spends (w.END ∷ named p.name ∷ ws) (refl, (fits.name, rest)) in
      (refl, (fits.name, (refl, activated p fits p.event fits.event _ (refl, (made.x, (refl, (refl, (refl, body))))))))

  all_processes : (ps : List TaskLine) → Every LineFits ps → (ws : List Word) → AreSpelled ws → AreSpelled (each_words decl_words (map (λ p. process (table_process tail p)) ps) ws)
  all_processes [] fits ws rest = rest
  all_processes (p ∷ ps) fits ws rest = one_process p fits.0 _ (all_processes ps fits.1 ws rest)

  -- ---- monitors

  one_entry : (ticks : ℕ) → TicksFit ticks → (ws : List Word) → AreSpelled ws → AreSpelled (entry_words (stay_entry tail ticks) ws)
  one_entry ticks fits ws rest =
      let left = ticks - 3 in
      let name = made.stay ticks fits.few in
      let body = spending left (spend tail left) (spent tail left fits.met (omega (arith, fits.few))) (w.END ∷ named (stay_name ticks ++ tail) ∷ ws) (refl, (name, rest)) in
      (refl, (refl, (name, (refl, (refl, (refl, (made.x, (refl, (refl, (refl, body))))))))))

  all_entries : (ticks : List ℕ) → Every TicksFit ticks → (ws : List Word) → AreSpelled ws → AreSpelled (each_words entry_words (map (stay_entry tail) ticks) ws)
  all_entries [] fits ws rest = rest
  all_entries (n ∷ ns) fits ws rest = one_entry n fits.0 _ (all_entries ns fits.1 ws rest)

  module _ (t : TaskTable) (fits : TableFits t) where
    one_monitor : (name : Name) → IsName name → (ws : List Word) → AreSpelled ws → AreSpelled (monitor_words (table_monitor tail t name) ws)
    one_monitor name is ws rest = (refl, (is, all_entries (stays_in t name) (stays_in_fit t fits name) (w.END ∷ named name ∷ ws) (refl, (is, rest))))

    all_monitors : (names : List Name) → Every IsName names → (ds : List (Decl Nowhere)) (ws : List Word) → AreSpelled (each_words decl_words ds ws)
        → AreSpelled (each_words decl_words (map (λ name. monitor (table_monitor tail t name)) names ++ ds) ws)
    all_monitors [] are ds ws rest = rest
    all_monitors (name ∷ names) are ds ws rest = one_monitor name are.0 _ (all_monitors names are.1 ds ws rest)

    one_event : (o : Option Name) → EventFits o → (ds : List (Decl Nowhere)) (ws : List Word) → AreSpelled (each_words decl_words ds ws) → AreSpelled (each_words decl_words (event_of o ++ ds) ws)
    one_event None is ds ws rest = rest
    one_event (Some e) is ds ws rest = (refl, (is, rest))

    all_events : (ps : List TaskLine) → Every LineFits ps → (ds : List (Decl Nowhere)) (ws : List Word) → AreSpelled (each_words decl_words ds ws)
        → AreSpelled (each_words decl_words (flat_map (λ p. event_of p.event) ps ++ ds) ws)
    all_events [] are ds ws rest = rest
    all_events (p ∷ ps) are ds ws rest =
        let more = flat_map (λ q. event_of q.event) ps in
        subst (λ es. AreSpelled (each_words decl_words es ws)) (sym (append_assoc (event_of p.event) more ds)) (one_event p.event are.0.event (more ++ ds) ws (all_events ps are.1 ds ws rest))

    pub of_program : AreSpelled (prog_words (program_with tail t))
    of_program =
        let behind = w.END ∷ named t.name ∷ [] in
        let processes = map (λ p. process (table_process tail p)) t.tasks in
        let three = all_processes t.tasks fits.tasks behind (refl, (fits.name, tt)) in
        let two = all_monitors (monitors t) (monitors_fit t fits) processes behind three in
        (refl, (fits.name, all_events t.tasks fits.tasks (map (λ name. monitor (table_monitor tail t name)) (monitors t) ++ processes) behind two))
