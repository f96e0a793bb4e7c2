-- What the names mean in a table's program.
use Rattle.std.proofs.Common.{◌≡◌, ◌≢◌, ◌≤◌, ◌⊎◌, inl, inr, ℕ, Bool, true, false, not, ◌||◌, List, [], ◌∷◌, ◌++◌, Option, Some, None, codes, decimal, map, refl, ap, sym, ◌∙◌, subst, append_assoc}
use Rattle.std.specs.Prelude.{Contains, flat_map, is_some, if◌then◌else◌, option_to_list}
use Rattle.syntax_tree.specs.Plain.{Name}
use Rattle.syntax_tree.specs.declared.place.Place.{Place}
use Rattle.syntax_tree.specs.Placed.{Routine, Monitor, Process, Decl, constant, device, event, routine, monitor, process, Prog}
use Rattle.syntax_tree.specs.Bare.{bare_decl, bare}
use Rattle.syntax_tree.specs.Parts.{same_place}
use Rattle.static_names.specs.declared.kind.Declared.{Declared}
use Rattle.static_names.specs.declared.kind.Kind.TheVariants as kind_is
use Rattle.static_names.specs.Reach.{same, Names, Reach, first, Site}
use Rattle.static_names.specs.Occurrences.{Occurrence, declares, entry_name, decl_name, others, entries_at, inner_names, decls_names, program_name}
use Rattle.table_format.specs.declared.table.TaskLine.{TaskLine}
use Rattle.table_format.specs.declared.table.TaskTable.{TaskTable}
use Rattle.table_format.specs.Rules as of_table
use Rattle.table_format.specs.Spending.{Nowhere}
use Rattle.table_format.specs.Program.{table_monitor, table_process, event_of, program_with}
use Rattle.table_law.proofs.Lists.{Every}
use Rattle.table_law.proofs.Shapes.{IsDeclOf, an_event, a_monitor, a_process}
use Rattle.table_law.proofs.Fine.{is_fine, Fine}
use Rattle.table_law.proofs.Apart.{Apart, events_of, processes_of, program_names}
use Rattle.table_law.proofs.Bodies.{kind_of}
use Rattle.table_law.proofs.Firsts.{Elem, elem_left, elem_right, differs, first_more, kind_first}

-- ---- the names of declarations

abbrev called : {P : Type 0} → Decl P → Name
called (constant name p c) = name
called (device name p is_out) = name
called (event name p) = name
called (routine r) = r.name
called (monitor m) = m.name
called (process p) = p.name

called_bare : (ds : List (Decl Place)) → map called (map bare_decl ds) ≡ map called ds
called_bare [] = refl
called_bare (constant name p c ∷ ds) = ap (λ (ns : List Name). name ∷ ns) (called_bare ds)
called_bare (device name p is_out ∷ ds) = ap (λ (ns : List Name). name ∷ ns) (called_bare ds)
called_bare (event name p ∷ ds) = ap (λ (ns : List Name). name ∷ ns) (called_bare ds)
called_bare (routine r ∷ ds) = ap (λ (ns : List Name). r.name ∷ ns) (called_bare ds)
called_bare (monitor m ∷ ds) = ap (λ (ns : List Name). m.name ∷ ns) (called_bare ds)
called_bare (process p ∷ ds) = ap (λ (ns : List Name). p.name ∷ ns) (called_bare ds)

module _ (tail : Name) (t : TaskTable) where
  called_others : (ds : List (Decl Place)) → Every (IsDeclOf tail t) ds → map (λ d. d.0) (others ds) ≡ map called ds
  called_others [] are = refl
  called_others (d ∷ ds) are = one d are.0 (called_others ds are.1)
    where
      one : (d : Decl Place) → IsDeclOf tail t d → map (λ c. c.0) (others ds) ≡ map called ds → map (λ c. c.0) (others (d ∷ ds)) ≡ map called (d ∷ ds)
      one d (an_event name place) rest = ap (λ (ns : List Name). name ∷ ns) rest
      one d (a_monitor name m is) rest = ap (λ (ns : List Name). m.name ∷ ns) rest
      one d (a_process line p is) rest = ap (λ (ns : List Name). p.name ∷ ns) rest

  called_processes : (ps : List TaskLine) → map called (map (λ p. process (table_process tail p)) ps) ≡ processes_of ps
  called_processes [] = refl
  called_processes (p ∷ ps) = ap (λ (ns : List Name). p.name ∷ ns) (called_processes ps)

  called_monitors : (names : List Name) (ds : List (Decl Nowhere)) (more : List Name) → map called ds ≡ more → map called (map (λ name. monitor (table_monitor tail t name)) names ++ ds) ≡ names ++ more
  called_monitors [] ds more rest = rest
  called_monitors (name ∷ names) ds more rest = ap (λ (ns : List Name). name ∷ ns) (called_monitors names ds more rest)

  called_event : (o : Option Name) (ds : List (Decl Nowhere)) (more : List Name) → map called ds ≡ more → map called (event_of o ++ ds) ≡ option_to_list o ++ more
  called_event None ds more rest = rest
  called_event (Some e) ds more rest = ap (λ (ns : List Name). e ∷ ns) rest

  called_events : (ps : List TaskLine) (ds : List (Decl Nowhere)) (more : List Name) → map called ds ≡ more → map called (flat_map (λ p. event_of p.event) ps ++ ds) ≡ events_of ps ++ more
  called_events [] ds more rest = rest
  called_events (p ∷ ps) ds more rest =
      let later = flat_map (λ q. event_of q.event) ps in
      ap (λ es. map called es) (append_assoc (event_of p.event) later ds)
      ∙ called_event p.event (later ++ ds) (events_of ps ++ more) (called_events ps ds more rest) ∙ sym (append_assoc (option_to_list p.event) (events_of ps) more)

  pub names_are : (g : Prog Place) → bare g ≡ program_with tail t → Every (IsDeclOf tail t) g.decls → map (λ d. d.0) (others g.decls) ≡ program_names t
  names_are g like are =
      called_others g.decls are ∙ sym (called_bare g.decls) ∙ ap (λ ds. map called ds) (ap (λ x. x.decls) like)
      ∙ called_events t.tasks (map (λ name. monitor (table_monitor tail t name)) (of_table.monitors t) ++ map (λ p. process (table_process tail p)) t.tasks)
      (of_table.monitors t ++ processes_of t.tasks)
      (called_monitors (of_table.monitors t) (map (λ p. process (table_process tail p)) t.tasks) (processes_of t.tasks) (called_processes t.tasks))

  -- ---- the declarations one by one

  pub decl_there : (d : Decl Place) (ds : List (Decl Place)) → Every (IsDeclOf tail t) ds → Elem d ds → Elem (decl_name d) (others ds)
  decl_there d [] are e = absurd e
  decl_there d (c ∷ ds) are e = one c are.0 e (λ more. decl_there d ds are.1 more)
    where
      one : (c : Decl Place) → IsDeclOf tail t c → Elem d (c ∷ ds) → (Elem d ds → Elem (decl_name d) (others ds)) → Elem (decl_name d) (others (c ∷ ds))
      one c (an_event name place) (inl is) later = inl (ap decl_name is)
      one c (an_event name place) (inr more) later = inr (later more)
      one c (a_monitor name m like) (inl is) later = inl (ap decl_name is)
      one c (a_monitor name m like) (inr more) later = inr (later more)
      one c (a_process line p like) (inl is) later = inl (ap decl_name is)
      one c (a_process line p like) (inr more) later = inr (later more)

  module _ (all : Names) (members : Place → Reach) where
    abbrev Inner : Decl Place → Type 0
    Inner d = (more : List Occurrence) → Fine more → Fine (inner_names (record { means = first all; members = members }) d more)

    one_more : (d : Decl Place) → IsDeclOf tail t d → (ds : List (Decl Place)) → others (d ∷ ds) ≡ decl_name d ∷ others ds
    one_more d (an_event name place) ds = refl
    one_more d (a_monitor name m is) ds = refl
    one_more d (a_process line p is) ds = refl

    still_free : (earlier : Names) (d : Decl Place) (ds : List (Decl Place)) → Every (λ c. first earlier (decl_name c).0 ≡ None) ds
        → Every (λ n. (decl_name d).0 ≢ n) (map (λ c. (decl_name c).0) ds) → Every (λ c. first (earlier ++ decl_name d ∷ []) (decl_name c).0 ≡ None) ds
    still_free earlier d [] free far = tt
    still_free earlier d (c ∷ ds) free far =
        (first_more earlier (decl_name d) (decl_name c).0 free.0 (differs (decl_name c).0 (decl_name d).0 (λ is. far.0 (sym is))), still_free earlier d ds free.1 far.1)

    pub walk : (ds : List (Decl Place)) (earlier : Names) → earlier ++ others ds ≡ all → Every (IsDeclOf tail t) ds → Every (λ d. first earlier (decl_name d).0 ≡ None) ds
        → Apart (map (λ d. (decl_name d).0) ds) → Every Inner ds → (more : List Occurrence) → Fine more → Fine (decls_names members earlier ds more)
    walk [] earlier is are free apart inner more fine = fine
    walk (d ∷ ds) earlier is are free apart inner more fine =
        let later = earlier ++ decl_name d ∷ [] in
        let same_list : later ++ others ds ≡ all = append_assoc earlier (decl_name d ∷ []) (others ds) ∙ ap (λ (ns : Names). earlier ++ ns) (sym (one_more d are.0 ds)) ∙ is in
        let rest = walk ds later same_list are.1 (still_free earlier d ds free.1 apart.0) apart.1 inner.1 more fine in (
          ap (λ o. not (is_some o)) free.0,
          subst (λ (ns : Names). Fine (inner_names (record { means = first ns; members = members }) d (decls_names members later ds more))) (sym is) (inner.0 (decls_names members later ds more) rest),
        )

-- ---- the entries of a monitor

entries_kind : (rs : List (Routine Place)) → Every (λ d. d.1.kind ≡ kind_is.Entry) (map entry_name rs)
entries_kind [] = tt
entries_kind (r ∷ rs) = (refl, entries_kind rs)

both_kind : (xs ys : Names) → Every (λ d. d.1.kind ≡ kind_is.Entry) xs → Every (λ d. d.1.kind ≡ kind_is.Entry) ys → Every (λ d. d.1.kind ≡ kind_is.Entry) (xs ++ ys)
both_kind [] ys one other = other
both_kind (x ∷ xs) ys one other = (one.0, both_kind xs ys one.1 other)

all_entries : (ds : List (Decl Place)) (place : Place) → Every (λ d. d.1.kind ≡ kind_is.Entry) (entries_at ds place)
all_entries [] place = tt
all_entries (constant name p c ∷ ds) place = all_entries ds place
all_entries (device name p is_out ∷ ds) place = all_entries ds place
all_entries (event name p ∷ ds) place = all_entries ds place
all_entries (routine r ∷ ds) place = all_entries ds place
all_entries (monitor m ∷ ds) place = by (same_place place m.place) (all_entries ds place)
  where
    by : (b : Bool) → Every (λ d. d.1.kind ≡ kind_is.Entry) (entries_at ds place)
        → Every (λ d. d.1.kind ≡ kind_is.Entry) (if b then map entry_name m.entries ++ entries_at ds place else entries_at ds place)
    by true rest = both_kind (map entry_name m.entries) (entries_at ds place) (entries_kind m.entries) rest
    by false rest = rest
all_entries (process p ∷ ds) place = all_entries ds place

abbrev NameIn : Name → Names → Type 0
NameIn n ds = Elem n (map (λ d. d.0) ds)

name_left : (n : Name) (xs ys : Names) → NameIn n xs → NameIn n (xs ++ ys)
name_left n [] ys e = absurd e
name_left n (x ∷ xs) ys (inl is) = inl is
name_left n (x ∷ xs) ys (inr e) = inr (name_left n xs ys e)

name_right : (n : Name) (xs ys : Names) → NameIn n ys → NameIn n (xs ++ ys)
name_right n [] ys e = e
name_right n (x ∷ xs) ys e = inr (name_right n xs ys e)

entry_there : (m : Monitor Place) → (same_place m.place m.place ≡ true) → (ds : List (Decl Place)) → Elem (monitor m) ds → (e : Name) → NameIn e (map entry_name m.entries) → NameIn e (entries_at ds m.place)
entry_there m here [] is e there = absurd is
entry_there m here (constant name p c ∷ ds) (inl is) e there = absurd cc
entry_there m here (constant name p c ∷ ds) (inr more) e there = entry_there m here ds more e there
entry_there m here (device name p is_out ∷ ds) (inl is) e there = absurd cc
entry_there m here (device name p is_out ∷ ds) (inr more) e there = entry_there m here ds more e there
entry_there m here (event name p ∷ ds) (inl is) e there = absurd cc
entry_there m here (event name p ∷ ds) (inr more) e there = entry_there m here ds more e there
entry_there m here (routine r ∷ ds) (inl is) e there = absurd cc
entry_there m here (routine r ∷ ds) (inr more) e there = entry_there m here ds more e there
entry_there m here (monitor k ∷ ds) (inl is) e there =
    (let equal : m ≡ k = cc in
    let at : same_place m.place k.place ≡ true = ap (λ x. same_place m.place x.place) (sym equal) ∙ here in
    subst (λ b. NameIn e (if b then map entry_name k.entries ++ entries_at ds m.place else entries_at ds m.place)) (sym at)
    (name_left e (map entry_name k.entries) (entries_at ds m.place) (subst (λ x. NameIn e (map entry_name x.entries)) equal there)))
entry_there m here (monitor k ∷ ds) (inr more) e there = by (same_place m.place k.place) (entry_there m here ds more e there)
  where
    by : (b : Bool) → NameIn e (entries_at ds m.place) → NameIn e (if b then map entry_name k.entries ++ entries_at ds m.place else entries_at ds m.place)
    by true rest = name_right e (map entry_name k.entries) (entries_at ds m.place) rest
    by false rest = rest
entry_there m here (process p ∷ ds) (inl is) e there = absurd cc
entry_there m here (process p ∷ ds) (inr more) e there = entry_there m here ds more e there

-- behind the monitor's name and a full stop its entry is found
pub entry_found : (m : Monitor Place) → (same_place m.place m.place ≡ true) → (ds : List (Decl Place)) → Elem (monitor m) ds → (e : Name) → NameIn e (map entry_name m.entries)
    → kind_of (first (entries_at ds m.place) e) ≡ Some kind_is.Entry
entry_found m here ds is e there = kind_first kind_is.Entry (entries_at ds m.place) e (all_entries ds m.place) (entry_there m here ds is e there)
