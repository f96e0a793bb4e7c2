-- A table's program has not too many processes, monitors, events, entries and words.
use Rattle.std.proofs.Common.{◌≡◌, ◌≢◌, ◌≤◌, ◌<◌, ◌+◌, ◌*◌, ℕ, zero, suc, Bool, true, false, List, [], ◌∷◌, ◌++◌, Option, Some, None, length, length-append, map, refl, ap, sym, ◌∙◌, subst, append_assoc, arith}
use Rattle.std.specs.Prelude.{flat_map, slice_get, nat_lt, if◌then◌else◌}
use Rattle.std.proofs.lemmas.Bool.{le-ltb}
use Rattle.syntax_tree.specs.Plain.{Name}
use Rattle.syntax_tree.specs.declared.place.Place.{Place}
use Rattle.syntax_tree.specs.Placed.{Kind, Var, Decl, constant, device, event, routine, monitor, process, Prog}
use Rattle.syntax_tree.specs.Bare.{bare_routine, bare_decl, bare}
use Rattle.syntax_tree.specs.Parts.{processes, monitors, routines, devices, events}
use Rattle.static_declarations.specs.Values.{Worth, value}
use Rattle.static_rule.specs.Parts.{FailsAmong}
use Rattle.static_numbers.specs.Counts.{process_places, monitor_places, conditions, member_conditions, routine_places, one_too_many, at_none, placed_kind_size, vars_words, members_words, words}
use Rattle.static_numbers.specs.Rules.{count_rules}
use Rattle.table_format.specs.declared.table.TaskLine.{TaskLine}
use Rattle.table_format.specs.declared.table.TaskTable.{TaskTable}
use Rattle.table_format.specs.Rules as of_table
use Rattle.table_format.specs.Rules.{stays, IsBegun}
use Rattle.table_format.specs.Spending.{Nowhere, of_x}
use Rattle.table_format.specs.Program.{stay_entry, stays_in, table_monitor, table_process, event_of, program_with}
use Rattle.table_law.proofs.Lists.{Every}
use Rattle.table_law.proofs.Few.{sum_of, few_entries, map_length}
use Rattle.table_law.proofs.Shapes.{OneInt, IsDeclOf, an_event, a_monitor, a_process}
use Rattle.table_law.proofs.Statements.{NoneOf, none_among}

-- ---- as many as without places

processes_bare : (ds : List (Decl Place)) → length (processes (map bare_decl ds)) ≡ length (processes ds)
processes_bare [] = refl
processes_bare (constant name p c ∷ ds) = processes_bare ds
processes_bare (device name p is_out ∷ ds) = processes_bare ds
processes_bare (event name p ∷ ds) = processes_bare ds
processes_bare (routine r ∷ ds) = processes_bare ds
processes_bare (monitor m ∷ ds) = processes_bare ds
processes_bare (process p ∷ ds) = omega (arith, processes_bare ds)

monitors_bare : (ds : List (Decl Place)) → length (monitors (map bare_decl ds)) ≡ length (monitors ds)
monitors_bare [] = refl
monitors_bare (constant name p c ∷ ds) = monitors_bare ds
monitors_bare (device name p is_out ∷ ds) = monitors_bare ds
monitors_bare (event name p ∷ ds) = monitors_bare ds
monitors_bare (routine r ∷ ds) = monitors_bare ds
monitors_bare (monitor m ∷ ds) = omega (arith, monitors_bare ds)
monitors_bare (process p ∷ ds) = monitors_bare ds

events_bare : (ds : List (Decl Place)) → length (events (map bare_decl ds)) ≡ length (events ds)
events_bare [] = refl
events_bare (constant name p c ∷ ds) = events_bare ds
events_bare (device name p is_out ∷ ds) = events_bare ds
events_bare (event name p ∷ ds) = omega (arith, events_bare ds)
events_bare (routine r ∷ ds) = events_bare ds
events_bare (monitor m ∷ ds) = events_bare ds
events_bare (process p ∷ ds) = events_bare ds

routines_bare : (ds : List (Decl Place)) → length (routines (map bare_decl ds)) ≡ length (routines ds)
routines_bare [] = refl
routines_bare (constant name p c ∷ ds) = routines_bare ds
routines_bare (device name p is_out ∷ ds) = routines_bare ds
routines_bare (event name p ∷ ds) = routines_bare ds
routines_bare (routine r ∷ ds) = omega (arith, routines_bare ds)
routines_bare (monitor m ∷ ds) =
    omega (arith, routines_bare ds, map_length bare_routine m.entries, length-append m.entries (routines ds), length-append (map bare_routine m.entries) (routines (map bare_decl ds)))
routines_bare (process p ∷ ds) =
    omega (arith, routines_bare ds, map_length bare_routine p.routines, length-append p.routines (routines ds), length-append (map bare_routine p.routines) (routines (map bare_decl ds)))

-- ---- those of the table

-- how many of each kind
record Numbers (ds : List (Decl Nowhere)) (events_are monitors_are processes_are routines_are : ℕ) : Type 0 where
  of_events : length (events ds) ≡ events_are
  of_monitors : length (monitors ds) ≡ monitors_are
  of_processes : length (processes ds) ≡ processes_are
  of_routines : length (routines ds) ≡ routines_are

module _ (tail : Name) (t : TaskTable) where
  of_process_decls : (ps : List TaskLine) → Numbers (map (λ p. process (table_process tail p)) ps) 0 0 (length ps) 0
  of_process_decls [] = record { of_events = refl; of_monitors = refl; of_processes = refl; of_routines = refl }
  of_process_decls (p ∷ ps) =
      let rest = of_process_decls ps in
      record { of_events = rest.of_events; of_monitors = rest.of_monitors; of_processes = omega (arith, rest.of_processes); of_routines = rest.of_routines }

  of_monitor_decls : (names : List Name) (ds : List (Decl Nowhere)) (a b c d : ℕ) → Numbers ds a b c d
      → Numbers (map (λ name. monitor (table_monitor tail t name)) names ++ ds) a (length names + b) c (sum_of (λ name. length (stays_in t name)) names + d)
  of_monitor_decls [] ds a b c d are =
      record { of_events = are.of_events; of_monitors = omega (arith, are.of_monitors); of_processes = are.of_processes; of_routines = omega (arith, are.of_routines) }
  of_monitor_decls (name ∷ names) ds a b c d are =
      let rest = of_monitor_decls names ds a b c d are in
      let entries = map (stay_entry tail) (stays_in t name) in
      record {
        of_events = rest.of_events;
        of_monitors = omega (arith, rest.of_monitors);
        of_processes = rest.of_processes;
        of_routines = omega (arith, rest.of_routines, map_length (stay_entry tail) (stays_in t name), length-append entries (routines (map (λ n. monitor (table_monitor tail t n)) names ++ ds)));
      }

  -- at most one event for each line
  record AtMost (ds : List (Decl Nowhere)) (a b c d : ℕ) : Type 0 where
    of_events : length (events ds) ≤ a
    of_monitors : length (monitors ds) ≡ b
    of_processes : length (processes ds) ≡ c
    of_routines : length (routines ds) ≡ d

  of_event_decl : (o : Option Name) (ds : List (Decl Nowhere)) (a b c d : ℕ) → AtMost ds a b c d → AtMost (event_of o ++ ds) (suc a) b c d
  of_event_decl None ds a b c d are =
      record { of_events = omega (arith, are.of_events); of_monitors = are.of_monitors; of_processes = are.of_processes; of_routines = are.of_routines }
  of_event_decl (Some e) ds a b c d are =
      record { of_events = omega (arith, are.of_events); of_monitors = are.of_monitors; of_processes = are.of_processes; of_routines = are.of_routines }

  of_event_decls : (ps : List TaskLine) (ds : List (Decl Nowhere)) (a b c d : ℕ) → AtMost ds a b c d → AtMost (flat_map (λ p. event_of p.event) ps ++ ds) (length ps + a) b c d
  of_event_decls [] ds a b c d are =
      record { of_events = omega (arith, are.of_events); of_monitors = are.of_monitors; of_processes = are.of_processes; of_routines = are.of_routines }
  of_event_decls (p ∷ ps) ds a b c d are =
      let more = flat_map (λ q. event_of q.event) ps in
      let it = of_event_decl p.event (more ++ ds) (length ps + a) b c d (of_event_decls ps ds a b c d are) in
      let one = subst (λ es. AtMost es (suc (length ps + a)) b c d) (sym (append_assoc (event_of p.event) more ds)) it in
      record { of_events = omega (arith, one.of_events); of_monitors = one.of_monitors; of_processes = one.of_processes; of_routines = one.of_routines }

  table_counts : AtMost (program_with tail t).decls (length t.tasks + 0) (length (of_table.monitors t) + 0) (length t.tasks) (sum_of (λ name. length (stays_in t name)) (of_table.monitors t) + 0)
  table_counts =
      let inner = of_monitor_decls (of_table.monitors t) (map (λ p. process (table_process tail p)) t.tasks) 0 0 (length t.tasks) 0 (of_process_decls t.tasks) in
      of_event_decls t.tasks (map (λ name. monitor (table_monitor tail t name)) (of_table.monitors t) ++ map (λ p. process (table_process tail p)) t.tasks)
      0 (length (of_table.monitors t) + 0) (length t.tasks) (sum_of (λ name. length (stays_in t name)) (of_table.monitors t) + 0)
      (record { of_events = omega (arith, inner.of_events); of_monitors = inner.of_monitors; of_processes = inner.of_processes; of_routines = inner.of_routines })

  -- ---- devices, conditions and words

  no_devices : (ds : List (Decl Place)) → Every (IsDeclOf tail t) ds → devices ds ≡ []
  no_devices [] are = refl
  no_devices (d ∷ ds) are = one d are.0 (no_devices ds are.1)
    where
      one : (d : Decl Place) → IsDeclOf tail t d → devices ds ≡ [] → devices (d ∷ ds) ≡ []
      one d (an_event name place) rest = rest
      one d (a_monitor name m is) rest = rest
      one d (a_process line p is) rest = rest

  no_conditions : (ds : List (Decl Place)) → Every (IsDeclOf tail t) ds → conditions (monitors ds) ≡ []
  no_conditions [] are = refl
  no_conditions (d ∷ ds) are = one d are.0 (no_conditions ds are.1)
    where
      one : (d : Decl Place) → IsDeclOf tail t d → conditions (monitors ds) ≡ [] → conditions (monitors (d ∷ ds)) ≡ []
      one d (an_event name place) rest = rest
      one d (a_monitor name m is) rest = ap (λ ms. member_conditions ms ++ conditions (monitors ds)) is.members ∙ rest
      one d (a_process line p is) rest = rest

  few_words : (worth : Worth) (ds : List (Decl Place)) → Every (IsDeclOf tail t) ds → words worth ds ≡ length (processes ds)
  few_words worth [] are = refl
  few_words worth (d ∷ ds) are = one d are.0 (few_words worth ds are.1)
    where
      one : (d : Decl Place) → IsDeclOf tail t d → words worth ds ≡ length (processes ds) → words worth (d ∷ ds) ≡ length (processes (d ∷ ds))
      one d (an_event name place) rest = rest
      one d (a_monitor name m is) rest = omega (arith, rest, ap (λ ms. members_words worth ms) is.members)
      one d (a_process line p is) rest =
          omega (arith, rest, ap (λ (vs : List (Var Place)). vars_words worth vs) is.x.is, ap (λ (k : Kind Place). placed_kind_size worth k) is.x.whole)

-- ---- the rules

past_end : {A : Type 0} (xs : List A) (k : ℕ) → length xs ≤ k → slice_get xs k ≡ None
past_end [] k short = refl
past_end (x ∷ xs) zero short = absurd (omega (arith, short))
past_end (x ∷ xs) (suc k) short = past_end xs k (omega (arith, short))

some_there : {A : Type 0} (place : Place) (xs : List A) → 1 ≤ length xs → at_none place xs ≡ None
some_there place [] some = absurd (omega (arith, some))
some_there place (x ∷ xs) some = refl

some_line : (ps : List TaskLine) → ps ≢ [] → 1 ≤ length ps
some_line [] some = absurd (some refl)
some_line (p ∷ ps) some = omega arith

pub counts_kept : (tail : Name) (t : TaskTable) → IsBegun t → t.tasks ≢ [] → (g : Prog Place) → bare g ≡ program_with tail t → Every (IsDeclOf tail t) g.decls
    → (number : ℕ) (place : Place) → ¬ FailsAmong (count_rules g) (g ∷ []) number place
counts_kept tail t is some g same are number place fails =
    let counts = subst (λ ds. AtMost tail t ds (length t.tasks + 0) (length (of_table.monitors t) + 0) (length t.tasks) (sum_of (λ name. length (stays_in t name)) (of_table.monitors t) + 0))
    (sym (ap (λ x. x.decls) same)) (table_counts tail t) in
    let all_processes : length (processes g.decls) ≡ length t.tasks = omega (arith, processes_bare g.decls, counts.of_processes) in
    let all_monitors : length (monitors g.decls) ≤ 64 = omega (arith, monitors_bare g.decls, counts.of_monitors, is.small.monitors) in
    let all_events : length (events g.decls) ≤ 64 = omega (arith, events_bare g.decls, counts.of_events, is.small.tasks) in
    let all_routines : length (routines g.decls) ≤ 512 = omega (arith, routines_bare g.decls, counts.of_routines, few_entries t, is.small.stays) in
    let o : Option Place = None in
    let none : NoneOf (count_rules g) g = (
      some_there g.place (processes g.decls) (omega (arith, all_processes, some_line t.tasks some)),
      (
        past_end (process_places g.decls) 64 (omega (arith, map_length (λ p. p.place) (processes g.decls), all_processes, is.small.tasks)),
        (
          past_end (monitor_places g.decls) 64 (omega (arith, map_length (λ m. m.place) (monitors g.decls), all_monitors)),
          (
            ap (λ (ps : List Place). slice_get ps 64) (no_devices tail t g.decls are),
            (
              past_end (events g.decls) 64 all_events,
              (
                ap (λ (ps : List Place). slice_get ps 256) (no_conditions tail t g.decls are),
                (
                  past_end (routine_places g.decls) 512 (omega (arith, map_length (λ r. r.place) (routines g.decls), all_routines)),
                  (ap (λ b. if b then Some g.place else o) (le-ltb 1048576 (words (value g) g.decls) (omega (arith, few_words tail t (value g) g.decls are, all_processes, is.small.tasks))), tt),
                ),
              ),
            ),
          ),
        ),
      ),
    ) in
    none_among (count_rules g) (g ∷ []) (none, tt) number place fails
