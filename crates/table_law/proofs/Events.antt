-- Each event of a table's program activates just one process.
use Rattle.std.proofs.Common.{◌≡◌, ◌≤◌, ◌<◌, ◌+◌, ℕ, zero, suc, inl, inr, Bool, true, false, nat_eq, List, [], ◌∷◌, ◌++◌, Option, Some, None, map, refl, ap, sym, ◌∙◌, subst, append_assoc, append-nil, arith}
use Rattle.std.specs.Prelude.{Contains, cond, flat_map, if◌then◌else◌}
use Rattle.std.proofs.lemmas.Bool.{eq-eqb}
use Rattle.syntax_tree.specs.Plain.{Name}
use Rattle.syntax_tree.specs.declared.place.Place.{Place}
use Rattle.syntax_tree.specs.Placed.{Constant, periodic, at_event, Activation, Process, Decl, constant, device, event, routine, monitor, process, Prog}
use Rattle.syntax_tree.specs.Bare.{bare_activation, bare_process, bare_decl, bare}
use Rattle.syntax_tree.specs.Parts.{same_place, events, processes}
use Rattle.static_names.specs.declared.kind.Declared.{Declared}
use Rattle.static_names.specs.declared.kind.NameUse.{NameUse}
use Rattle.static_names.specs.Reach.{first}
use Rattle.static_names.specs.Occurrences.{Occurrence, used, declared_at, decl_name, others, entries_at, inner_names, program_name, names as all_occurrences}
use Rattle.static_numbers.specs.Processes.{is_at, is_activated_by, users, misused_event}
use Rattle.table_format.specs.declared.table.TaskLine.{TaskLine}
use Rattle.table_format.specs.declared.table.TaskTable.{TaskTable}
use Rattle.table_format.specs.Rules as of_table
use Rattle.table_format.specs.Rules.{IsBegun}
use Rattle.table_format.specs.Spending.{Nowhere}
use Rattle.table_format.specs.Program.{made_tail, table_monitor, activation_of, table_process, event_of, program_with}
use Rattle.table_law.proofs.Lists.{Every, both, every_map, every_flat}
use Rattle.table_law.proofs.Fits.{LineFits, table_fits}
use Rattle.table_law.proofs.Shapes.{IsProcessOf, process_is, IsDeclOf, pulled}
use Rattle.table_law.proofs.Firsts.{Elem, elem_left, elem_of, each_of}
use Rattle.table_law.proofs.Users.{count, some_counted, event_declared}

-- ---- the parts of the declarations

record Split {A B : Type 0} (f : A → B) (ds : List A) (xs ys : List B) : Type 0 where
  one : List A
  other : List A
  is : ds ≡ one ++ other
  one_like : map f one ≡ xs
  other_like : map f other ≡ ys

split_of : {A B : Type 0} (f : A → B) (ds : List A) (xs ys : List B) → map f ds ≡ xs ++ ys → Split f ds xs ys
split_of f ds [] ys same = record { one = []; other = ds; is = refl; one_like = refl; other_like = same }
split_of f [] (x ∷ xs) ys same = absurd cc
split_of f (d ∷ ds) (x ∷ xs) ys same =
    (let first_like : f d ≡ x = cc in
    let rest : map f ds ≡ xs ++ ys = cc in
    let it = split_of f ds xs ys rest in
    let rest_like = it.one_like in
    record { one = d ∷ it.one; other = it.other; is = ap (λ (es : List _). d ∷ es) it.is; one_like = λ i. first_like i ∷ rest_like i; other_like = it.other_like })

events_both : (xs ys : List (Decl Place)) → events (xs ++ ys) ≡ events xs ++ events ys
events_both [] ys = refl
events_both (constant name p c ∷ xs) ys = events_both xs ys
events_both (device name p is_out ∷ xs) ys = events_both xs ys
events_both (event name p ∷ xs) ys = ap (λ (ps : List Place). p ∷ ps) (events_both xs ys)
events_both (routine r ∷ xs) ys = events_both xs ys
events_both (monitor m ∷ xs) ys = events_both xs ys
events_both (process p ∷ xs) ys = events_both xs ys

processes_both : (xs ys : List (Decl Place)) → processes (xs ++ ys) ≡ processes xs ++ processes ys
processes_both [] ys = refl
processes_both (constant name p c ∷ xs) ys = processes_both xs ys
processes_both (device name p is_out ∷ xs) ys = processes_both xs ys
processes_both (event name p ∷ xs) ys = processes_both xs ys
processes_both (routine r ∷ xs) ys = processes_both xs ys
processes_both (monitor m ∷ xs) ys = processes_both xs ys
processes_both (process p ∷ xs) ys = ap (λ (ps : List (Process Place)). p ∷ ps) (processes_both xs ys)

abbrev NoEvent : Decl Place → Type 0
NoEvent d = (rest : List (Decl Place)) → events (d ∷ rest) ≡ events rest

abbrev NoProcess : Decl Place → Type 0
NoProcess d = (rest : List (Decl Place)) → processes (d ∷ rest) ≡ processes rest

no_events : (ds : List (Decl Place)) → Every NoEvent ds → events ds ≡ []
no_events [] all = refl
no_events (d ∷ ds) all = all.0 ds ∙ no_events ds all.1

no_processes : (ds : List (Decl Place)) → Every NoProcess ds → processes ds ≡ []
no_processes [] all = refl
no_processes (d ∷ ds) all = all.0 ds ∙ no_processes ds all.1

module _ (tail : Name) (t : TaskTable) where
  monitor_no_event : (name : Name) (d : Decl Place) → bare_decl d ≡ monitor (table_monitor tail t name) → NoEvent d
  monitor_no_event name (monitor m) is rest = refl
  monitor_no_event name d is rest = absurd cc

  monitor_no_process : (name : Name) (d : Decl Place) → bare_decl d ≡ monitor (table_monitor tail t name) → NoProcess d
  monitor_no_process name (monitor m) is rest = refl
  monitor_no_process name d is rest = absurd cc

  process_no_event : (line : TaskLine) (d : Decl Place) → bare_decl d ≡ process (table_process tail line) → NoEvent d
  process_no_event line (process p) is rest = refl
  process_no_event line d is rest = absurd cc

  event_no_process : (e : Name) (d : Decl Place) → bare_decl d ≡ event e tt → NoProcess d
  event_no_process e (event n p) is rest = refl
  event_no_process e d is rest = absurd cc

  events_no_process : (o : Option Name) → Every (λ y. (d : Decl Place) → bare_decl d ≡ y → NoProcess d) (event_of o)
  events_no_process None = tt
  events_no_process (Some e) = (event_no_process e, tt)

module _ (t : TaskTable) (begun : IsBegun t) (g : Prog Place) (like : bare g ≡ program_with (made_tail t) t) (are : Every (IsDeclOf (made_tail t) t) g.decls)
    (lists : (before : List (Decl Place)) (p : Process Place) (after : List (Decl Place)) → g.decls ≡ before ++ process p ∷ after → (o : Occurrence)
    → Contains (inner_names (record { means = first ((program_name g ∷ map decl_name before) ++ others (process p ∷ after)); members = λ place. first (entries_at g.decls place) }) (process p) []) o
    → Contains (all_occurrences g) o)
    (finds : (name : Name) (place : Place) (want : NameUse) (d : Declared) → Contains (all_occurrences g) (used name place want (Some d)) → declared_at (all_occurrences g) place ≡ Some d.place) where
  abbrev tail : Name
  tail = made_tail t

  abbrev found : Place → Option Place
  found = declared_at (all_occurrences g)

  chosen : (b : Bool) (u c : ℕ) → u ≡ c → (if b then suc u else u) ≡ cond b 1 0 + c
  chosen true u c is = omega (arith, is)
  chosen false u c is = omega (arith, is)

  record Ahead (ds : List (Decl Place)) (d : Decl Nowhere) (ys : List (Decl Nowhere)) : Type 0 where
    first_one : Decl Place
    more : List (Decl Place)
    is : ds ≡ first_one ∷ more
    first_like : bare_decl first_one ≡ d
    more_like : map bare_decl more ≡ ys

  ahead : (ds : List (Decl Place)) (d : Decl Nowhere) (ys : List (Decl Nowhere)) → map bare_decl ds ≡ d ∷ ys → Ahead ds d ys
  ahead [] d ys same = absurd cc
  ahead (x ∷ ds) d ys same = record { first_one = x; more = ds; is = refl; first_like = cc; more_like = cc }

  record ProcessThere (d : Decl Place) (line : TaskLine) : Type 0 where
    p : Process Place
    is : d ≡ process p
    same_p : bare_process p ≡ table_process tail line

  process_there : (d : Decl Place) (line : TaskLine) → bare_decl d ≡ process (table_process tail line) → ProcessThere d line
  process_there (process p) line same = record { p = p; is = refl; same_p = cc }
  process_there d line same = absurd cc

  record EventThere (d : Decl Place) (e : Name) : Type 0 where
    at : Place
    is : d ≡ event e at

  event_there : (d : Decl Place) (e : Name) → bare_decl d ≡ event e tt → EventThere d e
  event_there (event n p) e same = (let names : n ≡ e = cc in record { at = p; is = ap (λ k. event k p) names })
  event_there d e same = absurd cc

  record Triggered (a : Activation Place) (e : Name) : Type 0 where
    q : Place
    frame : Constant Place
    deadline : Option (Constant Place)
    is : a ≡ at_event e q frame deadline

  triggered : (line : TaskLine) (e : Name) (a : Activation Place) → bare_activation a ≡ activation_of line (Some e) → Triggered a e
  triggered line e (periodic frame deadline start) same = absurd cc
  triggered line e (at_event n q frame deadline) same = (let names : n ≡ e = cc in record { q = q; frame = frame; deadline = deadline; is = ap (λ k. at_event k q frame deadline) names })

  not_triggered : (line : TaskLine) (e0 : Place) (a : Activation Place) → bare_activation a ≡ activation_of line None → is_activated_by found e0 a ≡ false
  not_triggered line e0 (periodic frame deadline start) same = refl
  not_triggered line e0 (at_event n q frame deadline) same = absurd cc

  -- the process of a line is activated by the line's event alone
  one_line : (e0 : Place) (line : TaskLine) → Elem line t.tasks → (p : Process Place) → IsProcessOf tail line p → (before after : List (Decl Place)) → g.decls ≡ before ++ process p ∷ after
      → (es : List (Decl Place)) (ys : List (Decl Nowhere)) → ((d : Decl Place) → Elem d es → Elem d g.decls)
      → ((more : List (Decl Place)) → map bare_decl more ≡ ys → ((d : Decl Place) → Elem d more → Elem d g.decls) → users found e0 (processes after) ≡ count e0 (events more))
      → (o : Option Name) → line.event ≡ o → map bare_decl es ≡ event_of o ++ ys → bare_activation p.activation ≡ activation_of line o
      → users found e0 (p ∷ processes after) ≡ count e0 (events es)
  one_line e0 line listed p is before after here es ys es_in rest None has es_like activation =
      ap (λ b. if b then suc (users found e0 (processes after)) else users found e0 (processes after)) (not_triggered line e0 p.activation activation) ∙ rest es es_like es_in
  one_line e0 line listed p is before after here es ys es_in rest (Some e) has es_like activation =
      let a = ahead es (event e tt) ys es_like in
      let ev = event_there a.first_one e a.first_like in
      let es_is : es ≡ event e ev.at ∷ a.more = a.is ∙ ap (λ (d : Decl Place). d ∷ a.more) ev.is in
      let first_in : Elem (event e ev.at) es = subst (λ ds. Elem (event e ev.at) ds) (sym es_is) (inl refl) in
      let more_in : (d : Decl Place) → Elem d a.more → Elem d g.decls = λ d e_in. es_in d (subst (λ ds. Elem d ds) (sym es_is) (inr e_in)) in
      let tr = triggered line e p.activation activation in
      let declared = event_declared t begun g like are lists finds before p after here line listed is e tr.q ev.at tr.frame tr.deadline has tr.is (es_in (event e ev.at) first_in) in
      let by_it : is_activated_by found e0 p.activation ≡ same_place ev.at e0 = ap (λ x. is_activated_by found e0 x) tr.is ∙ ap (λ x. is_at e0 x) declared in
      ap (λ b. if b then suc (users found e0 (processes after)) else users found e0 (processes after)) by_it
      ∙ chosen (same_place ev.at e0) (users found e0 (processes after)) (count e0 (events a.more)) (rest a.more a.more_like more_in)
      ∙ sym (ap (λ (ds : List (Decl Place)). count e0 (events ds)) es_is)

  -- one line after another: its event, and its process
  counted : (e0 : Place) (lines : List TaskLine) → ((line : TaskLine) → Elem line lines → Elem line t.tasks) → (es ps before : List (Decl Place))
      → map bare_decl es ≡ flat_map (λ p. event_of p.event) lines → ((d : Decl Place) → Elem d es → Elem d g.decls)
      → map bare_decl ps ≡ map (λ p. process (table_process tail p)) lines → g.decls ≡ before ++ ps
      → users found e0 (processes ps) ≡ count e0 (events es)
  counted e0 [] within [] [] before es_like es_in ps_like split = refl
  counted e0 [] within (e ∷ es) ps before es_like es_in ps_like split = absurd cc
  counted e0 [] within [] (p ∷ ps) before es_like es_in ps_like split = absurd cc
  counted e0 (line ∷ lines) within es ps before es_like es_in ps_like split =
      let a = ahead ps (process (table_process tail line)) (map (λ p. process (table_process tail p)) lines) ps_like in
      let p = process_there a.first_one line a.first_like in
      let ps_is : ps ≡ process p.p ∷ a.more = a.is ∙ ap (λ (d : Decl Place). d ∷ a.more) p.is in
      let here : g.decls ≡ before ++ process p.p ∷ a.more = split ∙ ap (λ (ds : List (Decl Place)). before ++ ds) ps_is in
      let later : g.decls ≡ (before ++ process p.p ∷ []) ++ a.more = here ∙ sym (append_assoc before (process p.p ∷ []) a.more) in
      let listed = within line (inl refl) in
      let is = process_is tail line (elem_of LineFits line t.tasks (table_fits t begun).tasks listed) p.p p.same_p in
      ap (λ (ds : List (Decl Place)). users found e0 (processes ds)) ps_is
      ∙ one_line e0 line listed p.p is before a.more here es (flat_map (λ q. event_of q.event) lines) es_in
      (λ more more_like more_in. counted e0 lines (λ l e. within l (inr e)) more a.more (before ++ process p.p ∷ []) more_like more_in a.more_like later)
      line.event refl es_like (ap (λ x. x.activation) p.same_p)

  elem_front : (d : Decl Place) (xs ys : List (Decl Place)) → g.decls ≡ xs ++ ys → Elem d xs → Elem d g.decls
  elem_front d xs ys is e = subst (λ ds. Elem d ds) (sym is) (elem_left d xs ys e)

  pub used_once : ((q : Place) → count q (events g.decls) ≤ 1) → (e0 : Place) → Elem e0 (events g.decls) → misused_event found (processes g.decls) e0 ≡ None
  used_once few e0 there =
      let mons = map (λ name. monitor (table_monitor tail t name)) (of_table.monitors t) in
      let procs = map (λ p. process (table_process tail p)) t.tasks in
      let evs = flat_map (λ p. event_of p.event) t.tasks in
      let a = split_of bare_decl g.decls evs (mons ++ procs) (ap (λ x. x.decls) like) in
      let b = split_of bare_decl a.other mons procs a.other_like in
      let whole : g.decls ≡ (a.one ++ b.one) ++ b.other = a.is ∙ ap (λ (ds : List (Decl Place)). a.one ++ ds) b.is ∙ sym (append_assoc a.one b.one b.other) in
      let some = counted e0 t.tasks (λ line e. e) a.one b.other (a.one ++ b.one) a.one_like (λ d e. elem_front d a.one a.other a.is e) b.other_like whole in
      let no_mon_events = no_events b.one (pulled bare_decl NoEvent b.one mons b.one_like (every_map (λ y. (d : Decl Place) → bare_decl d ≡ y → NoEvent d) (λ name. monitor (table_monitor tail t name)) (of_table.monitors t)
      (each_of (λ name. (d : Decl Place) → bare_decl d ≡ monitor (table_monitor tail t name) → NoEvent d) (of_table.monitors t) (λ name e. monitor_no_event tail t name)))) in
      let no_proc_events = no_events b.other (pulled bare_decl NoEvent b.other procs b.other_like (every_map (λ y. (d : Decl Place) → bare_decl d ≡ y → NoEvent d) (λ p. process (table_process tail p)) t.tasks
      (each_of (λ p. (d : Decl Place) → bare_decl d ≡ process (table_process tail p) → NoEvent d) t.tasks (λ p e. process_no_event tail t p)))) in
      let no_mon_processes = no_processes b.one (pulled bare_decl NoProcess b.one mons b.one_like (every_map (λ y. (d : Decl Place) → bare_decl d ≡ y → NoProcess d) (λ name. monitor (table_monitor tail t name)) (of_table.monitors t)
      (each_of (λ name. (d : Decl Place) → bare_decl d ≡ monitor (table_monitor tail t name) → NoProcess d) (of_table.monitors t) (λ name e. monitor_no_process tail t name)))) in
      let no_ev_processes = no_processes a.one (pulled bare_decl NoProcess a.one evs a.one_like (every_flat (λ y. (d : Decl Place) → bare_decl d ≡ y → NoProcess d) (λ p. event_of p.event) t.tasks
      (each_of (λ p. Every (λ y. (d : Decl Place) → bare_decl d ≡ y → NoProcess d) (event_of p.event)) t.tasks (λ p e. events_no_process tail t p.event)))) in
      let all_processes : processes g.decls ≡ processes b.other =
      ap (λ ds. processes ds) whole ∙ processes_both (a.one ++ b.one) b.other ∙ ap (λ (qs : List (Process Place)). qs ++ processes b.other) (processes_both a.one b.one)
      ∙ (λ i. (no_ev_processes i ++ no_mon_processes i) ++ processes b.other) in
      let all_events : events g.decls ≡ events a.one ++ [] =
      ap (λ ds. events ds) whole ∙ events_both (a.one ++ b.one) b.other ∙ ap (λ (qs : List Place). qs ++ events b.other) (events_both a.one b.one)
      ∙ (λ i. (events a.one ++ no_mon_events i) ++ no_proc_events i) ∙ append_assoc (events a.one) [] [] in
      let same_count : count e0 (events g.decls) ≡ count e0 (events a.one) = ap (λ ps. count e0 ps) (all_events ∙ append-nil (events a.one)) in
      let at_least = some_counted e0 (events g.decls) there in
      let one : users found e0 (processes g.decls) ≡ 1 = omega (arith, ap (λ ps. users found e0 ps) all_processes, some, same_count, at_least, few e0) in
      let o : Option Place = None in
      ap (λ b. if b then o else Some e0) (eq-eqb (users found e0 (processes g.decls)) 1 one)
