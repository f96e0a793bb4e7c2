-- A table's program has no places.
use Rattle.std.proofs.Common.{◌≡◌, ◌-◌, ◌≤◌, ℕ, List, [], ◌∷◌, ◌++◌, Option, Some, None, map, refl, ap, sym, ◌∙◌, subst, append_assoc, arith}
use Rattle.std.specs.Prelude.{flat_map, option_map}
use Rattle.syntax_tree.specs.Plain.{Name}
use Rattle.syntax_tree.specs.Placed.{Stmt, stmts, periodic, at_event, Decl, event, monitor, process, optional}
use Rattle.syntax_tree.specs.Bare.{bare_constant, bare_stmts, bare_routine, bare_monitor, bare_activation, bare_process, bare_decl, bare}
use Rattle.table_format.specs.declared.table.TaskStay.{TaskStay}
use Rattle.table_format.specs.declared.table.TaskLine.{TaskLine}
use Rattle.table_format.specs.declared.table.TaskTable.{TaskTable}
use Rattle.table_format.specs.Rules.{monitors, least_cost}
use Rattle.table_format.specs.Spending.{Nowhere, of_number, three, four, five, short_turns, long_turns, in_turn, spend}
use Rattle.table_format.specs.Program.{stay_entry, stays_in, table_monitor, activation_of, stay_call, table_process, event_of, program_with}
use Rattle.table_law.proofs.Spends.{Spends, nothing, by_three, by_four, by_five, by_short, by_long, spent}
use Rattle.table_law.proofs.Lists.{Every}
use Rattle.table_law.proofs.Fits.{TicksFit, LineFits, TableFits, stays_in_fit}

abbrev IsBare : List (Stmt Nowhere) → Type 0
IsBare ss = bare_stmts (in_turn ss) ≡ in_turn ss

spending : (tail : Name) (n : ℕ) (ss : List (Stmt Nowhere)) → Spends tail n ss → IsBare ss
spending tail n ss nothing = refl
spending tail n ss (by_three m _ more is few spends) = (let rest = spending tail m more spends in λ i. stmts (three tail) (rest i))
spending tail n ss (by_four m _ more is few spends) = (let rest = spending tail m more spends in λ i. stmts (four tail) (rest i))
spending tail n ss (by_five m _ more is few spends) = (let rest = spending tail m more spends in λ i. stmts (five tail) (rest i))
spending tail n ss (by_short turns m _ more is some few least most spends) = (let rest = spending tail m more spends in λ i. stmts (short_turns tail turns) (rest i))
spending tail n ss (by_long turns m _ more is some few least most spends) = (let rest = spending tail m more spends in λ i. stmts (long_turns tail turns) (rest i))

calling : (tail : Name) (stays : List TaskStay) (ss : List (Stmt Nowhere)) → IsBare ss → IsBare (map (stay_call tail) stays ++ ss)
calling tail [] ss same = same
calling tail (s ∷ stays) ss same = (let rest = calling tail stays ss same in λ i. stmts (stay_call tail s) (rest i))

numbers : (o : Option ℕ) → optional bare_constant (option_map of_number o) ≡ option_map of_number o
numbers None = refl
numbers (Some n) = refl

activated : (p : TaskLine) (o : Option Name) → bare_activation (activation_of p o) ≡ activation_of p o
activated p None = (let a = numbers p.deadline in let b = numbers p.first in λ i. periodic (of_number p.frame) (a i) (b i))
activated p (Some e) = (let a = numbers p.deadline in λ i. at_event e tt (of_number p.frame) (a i))

one_process : (tail : Name) (p : TaskLine) → LineFits p → bare_process (table_process tail p) ≡ table_process tail p
one_process tail p fits =
    let left = p.cost - least_cost p in
    let body = calling tail p.stays (spend tail left) (spending tail left (spend tail left) (spent tail left fits.met (omega (arith, fits.cost_few)))) in
    let activation = activated p p.event in
    λ i. record (table_process tail p) { activation = activation i; body = body i }

all_processes : (tail : Name) (ps : List TaskLine) → Every LineFits ps → map bare_decl (map (λ p. process (table_process tail p)) ps) ≡ map (λ p. process (table_process tail p)) ps
all_processes tail [] fits = refl
all_processes tail (p ∷ ps) fits = (let one = one_process tail p fits.0 in let more = all_processes tail ps fits.1 in λ i. process (one i) ∷ more i)

one_entry : (tail : Name) (ticks : ℕ) → TicksFit ticks → bare_routine (stay_entry tail ticks) ≡ stay_entry tail ticks
one_entry tail ticks fits =
    let left = ticks - 3 in
    let body = spending tail left (spend tail left) (spent tail left fits.met (omega (arith, fits.few))) in
    λ i. record (stay_entry tail ticks) { body = body i }

all_entries : (tail : Name) (ticks : List ℕ) → Every TicksFit ticks → map bare_routine (map (stay_entry tail) ticks) ≡ map (stay_entry tail) ticks
all_entries tail [] fits = refl
all_entries tail (n ∷ ns) fits = (let one = one_entry tail n fits.0 in let more = all_entries tail ns fits.1 in λ i. one i ∷ more i)

module _ (tail : Name) (t : TaskTable) (fits : TableFits t) where
  one_monitor : (name : Name) → bare_monitor (table_monitor tail t name) ≡ table_monitor tail t name
  one_monitor name = (let all = all_entries tail (stays_in t name) (stays_in_fit t fits name) in λ i. record (table_monitor tail t name) { entries = all i })

  all_monitors : (names : List Name) (ds : List (Decl Nowhere)) → map bare_decl ds ≡ ds
      → map bare_decl (map (λ name. monitor (table_monitor tail t name)) names ++ ds) ≡ map (λ name. monitor (table_monitor tail t name)) names ++ ds
  all_monitors [] ds rest = rest
  all_monitors (name ∷ names) ds rest = (let one = one_monitor name in let more = all_monitors names ds rest in λ i. monitor (one i) ∷ more i)

  one_event : (o : Option Name) (ds : List (Decl Nowhere)) → map bare_decl ds ≡ ds → map bare_decl (event_of o ++ ds) ≡ event_of o ++ ds
  one_event None ds rest = rest
  one_event (Some e) ds rest = ap (λ (es : List (Decl Nowhere)). event e tt ∷ es) rest

  all_events : (ps : List TaskLine) (ds : List (Decl Nowhere)) → map bare_decl ds ≡ ds → map bare_decl (flat_map (λ p. event_of p.event) ps ++ ds) ≡ flat_map (λ p. event_of p.event) ps ++ ds
  all_events [] ds rest = rest
  all_events (p ∷ ps) ds rest =
      let more = flat_map (λ q. event_of q.event) ps in
      subst (λ es. map bare_decl es ≡ es) (sym (append_assoc (event_of p.event) more ds)) (one_event p.event (more ++ ds) (all_events ps ds rest))

  pub is_bare : bare (program_with tail t) ≡ program_with tail t
  is_bare =
      let processes = map (λ p. process (table_process tail p)) t.tasks in
      let three = all_processes tail t.tasks fits.tasks in
      let two = all_monitors (monitors t) processes three in
      let one = all_events t.tasks (map (λ name. monitor (table_monitor tail t name)) (monitors t) ++ processes) two in
      λ i. record (program_with tail t) { decls = one i }
