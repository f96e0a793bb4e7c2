-- The tokens of a table's program, without places, are those of its tree.
use Rattle.std.proofs.Common.{◌≡◌, ◌≤◌, ◌-◌, ℕ, List, [], ◌∷◌, ◌++◌, Option, Some, None, map, refl, ap, sym, subst, append_assoc, arith}
use Rattle.std.specs.Prelude.{flat_map, option_map}
use Rattle.syntax_tree.specs.Plain.{Name}
use Rattle.syntax_tree.specs.Placed.{Stmt, Activation, Decl, monitor, process}
use Rattle.syntax.specs.Words as w
use Rattle.syntax.specs.Words.{Word, Tok, words_of}
use Rattle.syntax.specs.StmtGrammar.{AreStmts}
use Rattle.syntax.specs.ExprGrammar.{Each}
use Rattle.syntax.specs.Grammar.{MOST_LEVELS, IsDeadline, IsFirst, IsActivation, IsEntry, IsMonitor, IsProcess, IsDecl, IsProg}
use Rattle.syntax_reading.specs.TreeWords.{stmts_words, activation_words, deadline_words, first_words, process_words, decl_words, each_words, entry_words, optional_words, monitor_words, prog_words}
use Rattle.table_format.specs.declared.table.TaskStay.{TaskStay}
use Rattle.table_format.specs.declared.table.TaskLine.{TaskLine}
use Rattle.table_format.specs.declared.table.TaskTable.{TaskTable}
use Rattle.table_format.specs.Rules.{monitors, least_cost}
use Rattle.table_format.specs.Spending.{Nowhere, of_number, in_turn, spend}
use Rattle.table_format.specs.Program.{stay_entry, stays_in, table_monitor, activation_of, stay_call, table_process, event_of, program_with}
use Rattle.table_law.proofs.Spends.{Spends, nothing, by_three, by_four, by_five, by_short, by_long, spent}
use Rattle.table_law.proofs.Lists.{Every}
use Rattle.table_law.proofs.Fits.{TicksFit, LineFits, TableFits, stays_in_fit}

-- a word at no place
abbrev bare_tok : Word → Tok Nowhere
bare_tok word = record { word = word; place = tt }

abbrev pub toks : List Word → List (Tok Nowhere)
toks ws = map bare_tok ws

pub words-toks : (ws : List Word) → words_of (toks ws) ≡ ws
words-toks [] = refl
words-toks (word ∷ ws) = ap (λ (v : List Word). word ∷ v) (words-toks ws)

-- ---- statements

abbrev Grown : List (Stmt Nowhere) → Type 0
Grown ss = (ws : List Word) → AreStmts MOST_LEVELS (in_turn ss) (toks (stmts_words (in_turn ss) ws)) (toks ws)

spending : (tail : Name) (n : ℕ) (ss : List (Stmt Nowhere)) → Spends tail n ss → Grown ss
spending tail n ss nothing ws = refl
spending tail n ss (by_three m _ more is few spends) ws = (_, (_, refl, (_, (tt, refl), refl)), spending tail m more spends ws)
spending tail n ss (by_four m _ more is few spends) ws = (_, (_, refl, (_, (tt, refl), refl)), spending tail m more spends ws)
spending tail n ss (by_five m _ more is few spends) ws = (_, (_, refl, (_, (tt, refl), (_, refl, refl))), spending tail m more spends ws)
spending tail n ss (by_short turns m _ more is some few least most spends) ws =
    (_, (_, refl, (_, refl, (_, (tt, refl), (_, (refl, refl), (_, (tt, refl), (_, (refl, refl), (_, (tt, refl), (_, refl, (_, (tt, refl), (tt, refl)))))))))), spending tail m more spends ws)
spending tail n ss (by_long turns m _ more is some few least most spends) ws = (
  _,
  (
    _,
    refl,
    (
      _,
      refl,
      (
        _,
        (tt, refl),
        (
          _,
          (refl, refl),
          (
            _,
            (tt, refl),
            (
              _,
              (refl, refl),
              (
                _,
                (tt, refl),
                (
                  _,
                  (_, (_, refl, (_, refl, (_, (tt, refl), (_, (refl, refl), (_, (tt, refl), (_, (refl, refl), (_, (tt, refl), (_, refl, (_, (tt, refl), (tt, refl)))))))))), refl),
                  (_, (tt, refl), (tt, refl)),
                ),
              ),
            ),
          ),
        ),
      ),
    ),
  ),
  spending tail m more spends ws,
)

calling : (tail : Name) (stays : List TaskStay) (ss : List (Stmt Nowhere)) → Grown ss → Grown (map (stay_call tail) stays ++ ss)
calling tail [] ss grown ws = grown ws
calling tail (s ∷ stays) ss grown ws =
    (_, (_, refl, (_, (tt, refl), (_, refl, (_, (tt, refl), (_, refl, (tt, refl)))))), calling tail stays ss grown ws)

-- ---- processes

deadline : (o : Option ℕ) (ws : List Word) → IsDeadline (option_map of_number o) (toks (optional_words deadline_words (option_map of_number o) ws)) (toks ws)
deadline None ws = refl
deadline (Some n) ws = (_, (tt, refl), (refl, refl))

first : (o : Option ℕ) (ws : List Word) → IsFirst (option_map of_number o) (toks (optional_words first_words (option_map of_number o) ws)) (toks ws)
first None ws = refl
first (Some n) ws = (_, (tt, refl), (_, (tt, refl), (_, (tt, refl), (refl, refl))))

activated : (p : TaskLine) (o : Option Name) (ws : List Word) → IsActivation (activation_of p o) (toks (activation_words (activation_of p o) ws)) (toks ws)
activated p None ws =
    (_, (tt, refl), (_, (tt, refl), (_, (refl, refl), (_, deadline p.deadline (optional_words first_words (option_map of_number p.first) ws), first p.first ws))))
activated p (Some e) ws = (_, (tt, refl), (_, refl, (_, (tt, refl), (_, (refl, refl), deadline p.deadline ws))))

one_process : (tail : Name) (p : TaskLine) → LineFits p → (ws : List Word) → IsProcess (table_process tail p) (toks (process_words (table_process tail p) ws)) (toks ws)
one_process tail p fits ws =
    let left = p.cost - least_cost p in
    let body = calling tail p.stays (spend tail left) (spending tail left (spend tail left) (spent tail left fits.met (omega (arith, fits.cost_few)))) in (
      _,
      (tt, refl),
      (
        _,
        refl,
        (
          _,
          (tt, refl),
          (
            _,
            activated p p.event _,
            (
              _,
              (_, (_, (tt, refl), (_, refl, (_, (tt, refl), (tt, refl)))), refl),
              (
                _,
                refl,
                (
                  _,
                  (tt, refl),
                  (_, body _, (_, refl, (_, (tt, refl), refl))),
                ),
              ),
            ),
          ),
        ),
      ),
    )

all_processes : (tail : Name) (ps : List TaskLine) → Every LineFits ps → (ws : List Word)
    → Each IsDecl (map (λ p. process (table_process tail p)) ps) (toks (each_words decl_words (map (λ p. process (table_process tail p)) ps) ws)) (toks ws)
all_processes tail [] fits ws = refl
all_processes tail (p ∷ ps) fits ws = (_, one_process tail p fits.0 _, all_processes tail ps fits.1 ws)

-- ---- monitors

one_entry : (tail : Name) (ticks : ℕ) → TicksFit ticks → (ws : List Word) → IsEntry (stay_entry tail ticks) (toks (entry_words (stay_entry tail ticks) ws)) (toks ws)
one_entry tail ticks fits ws =
    let left = ticks - 3 in
    let body = spending tail left (spend tail left) (spent tail left fits.met (omega (arith, fits.few))) in (
      _,
      (tt, refl),
      (
        _,
        (tt, refl),
        (
          _,
          refl,
          (
            _,
            (tt, refl),
            (
              _,
              refl,
              (
                _,
                (tt, refl),
                (
                  _,
                  refl,
                  (
                    _,
                    (_, (_, (tt, refl), (_, refl, (_, (tt, refl), (tt, refl)))), refl),
                    (
                      _,
                      (tt, refl),
                      (_, body _, (_, refl, (_, (tt, refl), refl))),
                    ),
                  ),
                ),
              ),
            ),
          ),
        ),
      ),
    )

all_entries : (tail : Name) (ticks : List ℕ) → Every TicksFit ticks → (ws : List Word)
    → Each IsEntry (map (stay_entry tail) ticks) (toks (each_words entry_words (map (stay_entry tail) ticks) ws)) (toks ws)
all_entries tail [] fits ws = refl
all_entries tail (n ∷ ns) fits ws = (_, one_entry tail n fits.0 _, all_entries tail ns fits.1 ws)

module _ (tail : Name) (t : TaskTable) (fits : TableFits t) where
  one_monitor : (name : Name) (ws : List Word) → IsMonitor (table_monitor tail t name) (toks (monitor_words (table_monitor tail t name) ws)) (toks ws)
  one_monitor name ws = (_, (tt, refl), (_, refl, (_, refl, (_, all_entries tail (stays_in t name) (stays_in_fit t fits name) _, (_, (tt, refl), refl)))))

  all_monitors : (names : List Name) (ds : List (Decl Nowhere)) (ws : List Word) → Each IsDecl ds (toks (each_words decl_words ds ws)) (toks ws)
      → Each IsDecl (map (λ name. monitor (table_monitor tail t name)) names ++ ds) (toks (each_words decl_words (map (λ name. monitor (table_monitor tail t name)) names ++ ds) ws)) (toks ws)
  all_monitors [] ds ws rest = rest
  all_monitors (name ∷ names) ds ws rest = (_, one_monitor name _, all_monitors names ds ws rest)

  -- ---- events

  one_event : (o : Option Name) (ds : List (Decl Nowhere)) (ws : List Word) → Each IsDecl ds (toks (each_words decl_words ds ws)) (toks ws)
      → Each IsDecl (event_of o ++ ds) (toks (each_words decl_words (event_of o ++ ds) ws)) (toks ws)
  one_event None ds ws rest = rest
  one_event (Some e) ds ws rest = (_, (_, (tt, refl), refl), rest)

  all_events : (ps : List TaskLine) (ds : List (Decl Nowhere)) (ws : List Word) → Each IsDecl ds (toks (each_words decl_words ds ws)) (toks ws)
      → Each IsDecl (flat_map (λ p. event_of p.event) ps ++ ds) (toks (each_words decl_words (flat_map (λ p. event_of p.event) ps ++ ds) ws)) (toks ws)
  all_events [] ds ws rest = rest
  all_events (p ∷ ps) ds ws rest =
      let more = flat_map (λ q. event_of q.event) ps in
      subst (λ es. Each IsDecl es (toks (each_words decl_words es ws)) (toks ws)) (sym (append_assoc (event_of p.event) more ds)) (one_event p.event (more ++ ds) ws (all_events ps ds ws rest))

  pub of_program : IsProg (program_with tail t) (toks (prog_words (program_with tail t))) []
  of_program =
      let behind = w.END ∷ w.named t.name ∷ [] in
      let processes = map (λ p. process (table_process tail p)) t.tasks in
      let three = all_processes tail t.tasks fits.tasks behind in
      let two = all_monitors (monitors t) processes behind three in
      let one = all_events t.tasks (map (λ name. monitor (table_monitor tail t name)) (monitors t) ++ processes) behind two in
      (_, (tt, refl), (_, refl, (_, one, (_, (tt, refl), refl))))
