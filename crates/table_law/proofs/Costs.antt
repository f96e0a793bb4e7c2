-- The ticks of the entries and the processes of a table's program.
use Rattle.std.proofs.Common.{◌≡◌, ◌≤◌, ◌<◌, ◌+◌, ◌-◌, ◌^◌, ℕ, zero, suc, true, false, List, [], ◌∷◌, ◌++◌, Option, Some, None, codes, decimal, length, map, fold, bytes_eq, nat_eq, inl, inr, pos, refl, ap, sym, ◌∙◌, subst, arith}
use Rattle.std.specs.Prelude.{cond, find, option_map, slice_get}
use Rattle.std.proofs.lemmas.Bool.{eqb-true, eq-eqb}
use Rattle.std.proofs.lemmas.Fmt.{decimal_injective}
use Rattle.std.proofs.lemmas.List.{append_cancel_left, append_cancel_right}
use Rattle.base.specs.declared.capped.Cost.{Cost}
use Rattle.syntax_tree.specs.Plain as plain_of
use Rattle.syntax_tree.specs.Plain.{Name, Program, whole}
use Rattle.syntax_tree.specs.Placed.{Stmt, plain, plain_stmts, plain_monitor, plain_routine, plain_process}
use Rattle.source_semantics.specs.Names.{processes, monitor_number, routine_count}
use Rattle.source_semantics.specs.Run.{or_else}
use Rattle.code_spec.specs.Layout.{by_process, by_monitor, outer_spot, single, in_frame, in_process, in_area, place_named, places_from, vars_of_process}
use Rattle.code_spec.specs.Numbering.{Text, entry_in, entry_of}
use Rattle.code_cost_spec.specs.Names.{View, Names, Calls, range_seen, view_of}
use Rattle.code_cost_spec.specs.Costs.{run, load_ticks, check_ticks, store_ticks, call_cost, stmts_cost}
use Rattle.code_cost_spec.specs.Lengths.{check_length}
use Rattle.code_cost_spec.specs.Levels.{routine_names, process_names, calls_at, calls_of, stay_of_entry, cost_of_process}
use Rattle.table_format.specs.declared.table.TaskStay.{TaskStay}
use Rattle.table_format.specs.declared.table.TaskLine.{TaskLine}
use Rattle.table_format.specs.declared.table.TaskTable.{TaskTable}
use Rattle.table_format.specs.Rules.{same_name, stays, monitors, names_of_monitors, least_cost}
use Rattle.table_format.specs.Spending.{Nowhere, of_x, in_turn, spend}
use Rattle.table_format.specs.Program.{stay_name, stay_entry, stays_in, table_monitor, stay_call, table_process, program_with}
use Rattle.table_law.specs.Ticks.{IsOwnWord, IsMet}
use Rattle.table_law.proofs.Spends.{spent}
use Rattle.table_law.proofs.Ticks.{Takes, takes}
use Rattle.table_law.proofs.Lists.{Every, weaker}
use Rattle.table_law.proofs.Few.{sum_of, same_is, same_self}
use Rattle.table_law.proofs.Fits.{TicksFit, StayFits, LineFits, TableFits, stays_in_fit}
use Rattle.table_law.proofs.Members.{Elem, elem_map, elem_flat, elem_filter, elem_distinct, elem_some, first_named}
use Rattle.table_law.proofs.Parts.{mon, process_there, monitors_are, routines_counted}

-- ---- the variable of a text

local_view : View
local_view = record { area = in_frame; range = None }

own_view : View
own_view = record { area = in_process; range = None }

seen_local : (n : Names) (x : Name) → n.view x ≡ Some local_view → IsOwnWord n x
unfolding local_view
seen_local n x is = record {
  loads = ap load_ticks is;
  stores = ap (λ v. check_ticks (range_seen v) + store_ticks v (whole x)) is;
  length = ap (λ v. check_length (range_seen v) + 1) is;
}

seen_own : (n : Names) (x : Name) → n.view x ≡ Some own_view → IsOwnWord n x
unfolding own_view
seen_own n x is = record {
  loads = ap load_ticks is;
  stores = ap (λ v. check_ticks (range_seen v) + store_ticks v (whole x)) is;
  length = ap (λ v. check_length (range_seen v) + 1) is;
}

module _ (tail : Name) (g : Program) where
  pub entry_word : (monitor ticks : ℕ) → IsOwnWord (routine_names g (record { owner = by_monitor monitor; routine = plain_routine (stay_entry tail ticks) })) (of_x tail)
  unfolding local_view
  entry_word monitor ticks =
      seen_local (routine_names g (record { owner = by_monitor monitor; routine = plain_routine (stay_entry tail ticks) })) (of_x tail)
      (ap (λ b. option_map view_of (or_else (in_area in_frame (cond b (Some (record { name = of_x tail; range = None; word = 0; shape = single; fixed = false })) None)) (outer_spot g (by_monitor monitor) (of_x tail)))) (same_self (of_x tail)))

  pub process_word : (k : ℕ) (p : plain_of.Process) → slice_get (processes g) k ≡ Some p → p.vars ≡ record { name = of_x tail; kind = plain_of.scalar plain_of.int } ∷ []
      → IsOwnWord (process_names g k p) (of_x tail)
  unfolding own_view
  process_word k p there vars =
      seen_own (process_names g k p) (of_x tail)
      (ap (λ o. option_map view_of (in_area in_process (place_named (of_x tail) (places_from g 0 (vars_of_process o))))) there
      ∙ ap (λ vs. option_map view_of (in_area in_process (place_named (of_x tail) (places_from g 0 vs)))) vars
      ∙ ap (λ b. option_map view_of (in_area in_process (cond b (Some (record { name = of_x tail; range = None; word = 0; shape = single; fixed = false })) None))) (same_self (of_x tail)))

  -- ---- entries

  module _ (monitor ticks : ℕ) (fits : TicksFit ticks) where
    abbrev entry_text : Text
    entry_text = record { owner = by_monitor monitor; routine = plain_routine (stay_entry tail ticks) }

    body_takes : (k : Calls) → Takes (stmts_cost g (routine_names g entry_text) k (plain_stmts (in_turn (spend tail (ticks - 3))))) (ticks - 3)
    body_takes k =
        takes g k (routine_names g entry_text) tail (entry_word monitor ticks) (ticks - 3) (spend tail (ticks - 3)) (spent tail (ticks - 3) fits.met (omega (arith, fits.few)))

    pub stays_so_long : stay_of_entry g entry_text ≡ ticks
    stays_so_long = omega (arith, fits.some, (body_takes (calls_of g)).runs)

    -- a call of it, calls being nested at most so deep
    pub called : (deep : ℕ) → Takes ((calls_at (suc deep) g).cost entry_text) (9 + ticks)
    unfolding calls_at
    called deep =
        let body = body_takes (calls_at deep g) in
        record { runs = omega (arith, fits.some, body.runs); suspended = omega (arith, body.suspended); waits = omega (arith, body.waits) }

-- ---- what a call names

same_name_again : (n : Name) (names : List Name) → Every (λ y. y ≡ n → y ≡ n) names
same_name_again n [] = tt
same_name_again n (y ∷ names) = (λ e. e, same_name_again n names)

module _ (tail : Name) (t : TaskTable) (fits : TableFits t) where
  abbrev program : Program
  program = plain (program_with tail t)

  monitor_in : (s : TaskStay) → Elem s (stays t) → Elem s.monitor (monitors t)
  monitor_in s e = elem_distinct same_name same_is s.monitor (names_of_monitors t) (elem_map (λ z. z.monitor) s (stays t) e)

  ticks_in : (s : TaskStay) → Elem s (stays t) → Elem s.ticks (stays_in t s.monitor)
  ticks_in s e = elem_distinct nat_eq eqb-true s.ticks _
      (elem_map (λ z. z.ticks) s _ (elem_filter (λ z. same_name s.monitor z.monitor) s (stays t) (same_self s.monitor) e))

  sole : (s : TaskStay) → StayFits s → Every (λ y. stay_name y ++ tail ≡ stay_name s.ticks ++ tail → y ≡ s.ticks) (stays_in t s.monitor)
  sole s fit = weaker TicksFit (λ y. stay_name y ++ tail ≡ stay_name s.ticks ++ tail → y ≡ s.ticks)
      (λ y small same. decimal_injective y s.ticks (omega (arith, small.few)) (omega (arith, fit.ticks.few))
      (append_cancel_left (codes "stay") (decimal y) (decimal s.ticks) (append_cancel_right (stay_name y) (stay_name s.ticks) tail same)))
      (stays_in t s.monitor) (stays_in_fit t fits s.monitor)

  pub entry_found : (s : TaskStay) → Elem s (stays t) → StayFits s
      → entry_in program s.monitor (stay_name s.ticks ++ tail) ≡ Some (record { owner = by_monitor (monitor_number program s.monitor); routine = plain_routine (stay_entry tail s.ticks) })
  entry_found s e fit =
      let number = monitor_number program s.monitor in
      let name = stay_name s.ticks ++ tail in
      let found_monitor = first_named plain_monitor (table_monitor tail t) (λ m. m.name) s.monitor s.monitor (monitors t) (monitor_in s e) (same_name_again s.monitor (monitors t)) refl in
      let found_entry = first_named plain_routine (stay_entry tail) (λ r. r.name) name s.ticks (stays_in t s.monitor) (ticks_in s e) (sole s fit) refl in
      ap (λ (ms : List plain_of.Monitor). entry_of number (find (λ m. bytes_eq m.name s.monitor) ms) name) (monitors_are tail t)
      ∙ ap (λ o. entry_of number o name) found_monitor
      ∙ ap (option_map (λ r. record { owner = by_monitor number; routine = r })) found_entry

  some_routine : (s : TaskStay) → Elem s (stays t) → 1 ≤ routine_count program
  some_routine s e =
      let in_it = elem_map plain_routine (stay_entry tail s.ticks) (map (stay_entry tail) (stays_in t s.monitor)) (elem_map (stay_entry tail) s.ticks (stays_in t s.monitor) (ticks_in s e)) in
      omega (arith, elem_some (plain_routine (stay_entry tail s.ticks)) (mon tail t s.monitor).entries in_it, routines_counted tail t s.monitor (monitor_in s e))

  called_at : (monitor ticks : ℕ) → TicksFit ticks → (deep : ℕ) → 1 ≤ deep
      → Takes ((calls_at deep program).cost (record { owner = by_monitor monitor; routine = plain_routine (stay_entry tail ticks) })) (9 + ticks)
  called_at monitor ticks fit zero some = absurd (omega arith)
  called_at monitor ticks fit (suc deep) some = called tail program monitor ticks fit deep

  one_call : (s : TaskStay) → Elem s (stays t) → StayFits s → (args : List plain_of.Param → Cost) → Takes (args []) 0
      → Takes (call_cost (calls_of program) (entry_in program s.monitor (stay_name s.ticks ++ tail)) args) (15 + s.ticks)
  one_call s e fit args none =
      let it = called_at (monitor_number program s.monitor) s.ticks fit.ticks (routine_count program) (some_routine s e) in
      subst (λ o. Takes (call_cost (calls_of program) o args) (15 + s.ticks)) (sym (entry_found s e fit))
      (record { runs = omega (arith, none.runs, it.runs); suspended = omega (arith, none.suspended, it.suspended); waits = omega (arith, none.waits, it.waits) })

  nothing_taken : Takes (run 0) 0
  nothing_taken = record { runs = refl; suspended = refl; waits = refl }

  all_calls : (n : Names) (all : List TaskStay) → Every StayFits all → Every (λ s. Elem s (stays t)) all → (ss : List (Stmt Nowhere)) (left : ℕ)
      → Takes (stmts_cost program n (calls_of program) (plain_stmts (in_turn ss))) left
      → Takes (stmts_cost program n (calls_of program) (plain_stmts (in_turn (map (stay_call tail) all ++ ss)))) (sum_of (λ s. 15 + s.ticks) all + left)
  all_calls n [] fit there ss left takes = record { runs = omega (arith, takes.runs); suspended = takes.suspended; waits = takes.waits }
  all_calls n (s ∷ all) fit there ss left takes =
      let rest = all_calls n all fit.1 there.1 ss left takes in
      let one = one_call s there.0 fit.0 (λ ps. run 0) nothing_taken in
      record { runs = omega (arith, one.runs, rest.runs); suspended = omega (arith, one.suspended, rest.suspended); waits = omega (arith, one.waits, rest.waits) }

  -- ---- processes

  summed : (all : List TaskStay) (a : ℕ) → fold (λ n s. n + (15 + s.ticks)) a all ≡ a + sum_of (λ s. 15 + s.ticks) all
  summed [] a = omega arith
  summed (s ∷ all) a = omega (arith, summed all (a + (15 + s.ticks)))

  pub process_takes : (k : ℕ) (line : TaskLine) → slice_get t.tasks k ≡ Some line → LineFits line → Every (λ s. Elem s (stays t)) line.stays
      → Takes (cost_of_process program k (plain_process (table_process tail line))) line.cost
  process_takes k line there fit in_it =
      let left = line.cost - least_cost line in
      let p = plain_process (table_process tail line) in
      let own = process_word tail program k p (process_there tail t k line there) refl in
      let names = process_names program k p in
      let spends = takes program (calls_of program) names tail own left (spend tail left) (spent tail left fit.met (omega (arith, fit.cost_few))) in
      let body = all_calls names line.stays fit.stays in_it (spend tail left) left spends in
      record { runs = omega (arith, body.runs, fit.least, summed line.stays 0); suspended = omega (arith, body.suspended); waits = omega (arith, body.waits) }

-- ---- where the stays of a line stand

all_in : {A : Type 0} (xs : List A) → Every (λ x. Elem x xs) xs
all_in [] = tt
all_in (x ∷ xs) = (inl refl, weaker (λ y. Elem y xs) (λ y. Elem y (x ∷ xs)) (λ y e. inr e) xs (all_in xs))

pub got_is_in : {A : Type 0} (xs : List A) (k : ℕ) (x : A) → slice_get xs k ≡ Some x → Elem x xs
got_is_in [] k x is = absurd cc
got_is_in (y ∷ xs) zero x is = (let same : x ≡ y = cc in inl same)
got_is_in (y ∷ xs) (suc k) x is = inr (got_is_in xs k x is)

pub stays_there : (t : TaskTable) (line : TaskLine) → Elem line t.tasks → Every (λ s. Elem s (stays t)) line.stays
stays_there t line e =
    weaker (λ s. Elem s line.stays) (λ s. Elem s (stays t)) (λ s is. elem_flat (λ p. p.stays) s line t.tasks is e) line.stays (all_in line.stays)
