-- No name in a process of a table's program is refused, nor any other.
use Rattle.std.proofs.Common.{◌≡◌, ◌≢◌, ◌≤◌, ◌+◌, ◌-◌, ◌⊎◌, ℕ, zero, suc, inl, inr, Bool, true, false, not, ◌||◌, ◌&&◌, nat_eq, List, [], ◌∷◌, ◌++◌, Option, Some, None, codes, map, refl, ap, sym, ◌∙◌, subst, arith}
use Rattle.std.specs.Prelude.{Contains, cond, filter, flat_map, is_some, if◌then◌else◌, option_map, option_to_list}
use Rattle.std.proofs.lemmas.Bool.{eqb-true, eq-eqb}
use Rattle.syntax_tree.specs.Plain.{Name}
use Rattle.syntax_tree.specs.declared.place.Place.{Place}
use Rattle.syntax_tree.specs.Placed.{Constant, Kind, Var, Activation, periodic, at_event, Monitor, Process, Decl, constant, device, event, routine, monitor, process, Prog, optional}
use Rattle.syntax_tree.specs.Bare.{bare_constant, bare_activation, bare_monitor, bare_process, bare_decl, bare}
use Rattle.syntax_tree.specs.Parts.{same_place}
use Rattle.static_names.specs.declared.kind.Declared.{Declared}
use Rattle.static_names.specs.declared.kind.Kind.TheVariants as kind_is
use Rattle.static_names.specs.declared.kind.NameUse.TheVariants as want_is
use Rattle.static_names.specs.Reach.{same, Names, first, within, or_else, Site, inside, through, members_of}
use Rattle.static_names.specs.Occurrences.{Occurrence, closes, declarations, var_name, routine_name, entry_name, decl_name, others, constant_names, optional_names, activation_names, kind_names, vars_names, routines_names, stmts_names, handler_names, process_scope, process_inner, process_names, inner_names, entries_at, program_name}
use Rattle.static_names.specs.Resolved.{IsNamed}
use Rattle.table_format.specs.declared.table.TaskStay.{TaskStay}
use Rattle.table_format.specs.declared.table.TaskLine.{TaskLine}
use Rattle.table_format.specs.declared.table.TaskTable.{TaskTable}
use Rattle.table_format.specs.Rules as of_table
use Rattle.table_format.specs.Rules.{names, stays, same_name, distinct, names_of_monitors, least_cost, IsBegun}
use Rattle.table_format.specs.Spending.{Nowhere, of_number, of_x, spend}
use Rattle.table_format.specs.Program.{stay_name, made_tail, stays_in, table_monitor, activation_of, stay_call, table_process, event_of, program_with}
use Rattle.table_law.proofs.Lists.{Every, both, left_of, right_of, every_map, every_flat, every_distinct}
use Rattle.table_law.proofs.Few.{same_is, same_self}
use Rattle.table_law.proofs.Fits.{LineFits, table_fits}
use Rattle.table_law.proofs.Spends.{spent}
use Rattle.table_law.proofs.Shapes.{IsBody, spending, calling, IsProcessOf, process_is, monitor_is, IsDeclOf, an_event, a_monitor, a_process, pulled}
use Rattle.table_law.proofs.Free.{is_free}
use Rattle.table_law.proofs.Fine.{is_fine, Fine, named}
use Rattle.table_law.proofs.Apart.{Apart, contains_each, names_there}
use Rattle.table_law.proofs.Bodies.{kind_of, suits_so, literal_fine, Tells, body_fine}
use Rattle.table_law.proofs.Firsts.{Elem, elem_left, elem_right, elem_map, elem_of, each_of, Source, source_of, differs, first_of}
use Rattle.table_law.proofs.Sites.{decl_there, walk, entry_found}
use Rattle.table_law.proofs.TableNamesWhole.{scope_fine, variable_there, all_names, members, outer, called, all_apart, all_there, x_free, i_free, j_free, entries_called, monitor_fine, stays_made}

same-itself : (p : Place) → same_place p p ≡ true
same-itself p = ap (λ b. b && nat_eq p.col p.col) (eq-eqb p.line p.line refl) ∙ eq-eqb p.col p.col refl

-- ---- activations

optional_fine : (here : Site) (o : Option (Constant Place)) (n : Option ℕ) → optional bare_constant o ≡ option_map of_number n → (more : List Occurrence) → Fine more
    → Fine (optional_names (constant_names here) o more)
optional_fine here None n same more fine = fine
optional_fine here (Some c) None same more fine = absurd cc
optional_fine here (Some c) (Some k) same more fine = (let like : bare_constant c ≡ of_number k = cc in literal_fine here c k like more fine)

activated : (here : Site) (line : TaskLine) (o : Option Name) → ((e : Name) → o ≡ Some e → kind_of (here.means e) ≡ Some kind_is.Event)
    → (a : Activation Place) → bare_activation a ≡ activation_of line o → (more : List Occurrence) → Fine more → Fine (activation_names here a more)
activated here line None knows (periodic frame deadline start) same more fine =
    (let like : bare_constant frame ≡ of_number line.frame = cc in
    let deadlines : optional bare_constant deadline ≡ option_map of_number line.deadline = cc in
    let starts : optional bare_constant start ≡ option_map of_number line.first = cc in
    let last = optional_names (constant_names here) start more in
    literal_fine here frame line.frame like (optional_names (constant_names here) deadline last)
    (optional_fine here deadline line.deadline deadlines last (optional_fine here start line.first starts more fine)))
activated here line None knows (at_event name q frame deadline) same more fine = absurd cc
activated here line (Some e) knows (periodic frame deadline start) same more fine = absurd cc
activated here line (Some e) knows (at_event name q frame deadline) same more fine =
    (let like : bare_constant frame ≡ of_number line.frame = cc in
    let deadlines : optional bare_constant deadline ≡ option_map of_number line.deadline = cc in
    let called_so : name ≡ e = cc in
    let kind = ap (λ n. kind_of (here.means n)) called_so ∙ knows e refl in (
      suits_so want_is.Event (here.means name) kind_is.Event name q kind refl,
      literal_fine here frame line.frame like (optional_names (constant_names here) deadline more) (optional_fine here deadline line.deadline deadlines more fine),
    ))

-- ---- elements

elem_flat : {A B : Type 0} (f : A → List B) (b : B) (x : A) (xs : List A) → Elem b (f x) → Elem x xs → Elem b (flat_map f xs)
elem_flat f b x [] in_it e = absurd e
elem_flat f b x (y ∷ xs) in_it (inl is) = elem_left b (f y) (flat_map f xs) (subst (λ z. Elem b (f z)) is in_it)
elem_flat f b x (y ∷ xs) in_it (inr e) = elem_right b (f y) (flat_map f xs) (elem_flat f b x xs in_it e)

elem_filter : {A : Type 0} (test : A → Bool) (x : A) (xs : List A) → test x ≡ true → Elem x xs → Elem x (filter test xs)
elem_filter test x [] passes e = absurd e
elem_filter test x (y ∷ xs) passes e = by (test y) refl e (λ more. elem_filter test x xs passes more)
  where
    by : (b : Bool) → test y ≡ b → Elem x (y ∷ xs) → (Elem x xs → Elem x (filter test xs)) → Elem x (cond b (y ∷ filter test xs) (filter test xs))
    by true is (inl here) later = inl here
    by true is (inr more) later = inr (later more)
    by false is (inl here) later = (let wrong : test y ≡ true = ap test (sym here) ∙ passes in absurd cc)
    by false is (inr more) later = later more

elem_distinct : {A : Type 0} (same_as : A → A → Bool) → ((x y : A) → same_as x y ≡ true → x ≡ y) → (x : A) (xs : List A) → Elem x xs → Elem x (distinct same_as xs)
elem_distinct same_as means x [] e = absurd e
elem_distinct same_as means x (y ∷ xs) (inl is) = inl is
elem_distinct same_as means x (y ∷ xs) (inr e) = by (same_as y x) refl (elem_distinct same_as means x xs e)
  where
    by : (b : Bool) → same_as y x ≡ b → Elem x (distinct same_as xs) → Elem x (y ∷ filter (λ z. not (same_as y z)) (distinct same_as xs))
    by true is rest = inl (sym (means y x is))
    by false is rest = inr (elem_filter (λ z. not (same_as y z)) x (distinct same_as xs) (ap not is) rest)

-- ---- the names of a table are its names

tasks_there : (t : TaskTable) → Every (λ n. Contains (names t) n) (t.name ∷ flat_map of_table.task_names t.tasks)
tasks_there t = left_of (λ n. Contains (names t) n) (of_table.names_of_tasks t) (names_of_monitors t) (contains_each (names t))

monitors_there : (t : TaskTable) → Every (λ n. Contains (names t) n) (of_table.monitors t)
monitors_there t = every_distinct (λ n. Contains (names t) n) same_name (names_of_monitors t) (right_of (λ n. Contains (names t) n) (of_table.names_of_tasks t) (names_of_monitors t) (contains_each (names t)))

elem_event : (o : Option Name) (e : Name) → o ≡ Some e → Elem (event e tt) (event_of o)
elem_event None e is = absurd cc
elem_event (Some k) e is = (let same_one : e ≡ k = cc in inl (ap (λ n. event n tt) same_one))

elem_some : (o : Option Name) (e : Name) → o ≡ Some e → Elem e (option_to_list o)
elem_some None e is = absurd cc
elem_some (Some k) e is = (let same_one : e ≡ k = cc in inl same_one)

-- a process may call these
abbrev May : TaskLine → Name → Name → Name → Type 0
May line tail name entry = (s : TaskStay) × Elem s line.stays × (name ≡ s.monitor) × (entry ≡ stay_name s.ticks ++ tail)

record EventAt (d : Decl Place) (e : Name) : Type 0 where
  at : Place
  is : d ≡ event e at

event_at : (d : Decl Place) (e : Name) → bare_decl d ≡ event e tt → EventAt d e
event_at (event n p) e same = (let names : n ≡ e = cc in record { at = p; is = ap (λ k. event k p) names })
event_at d e same = absurd cc

record MonitorAt (d : Decl Place) (m : Monitor Nowhere) : Type 0 where
  one : Monitor Place
  is : d ≡ monitor one
  like : bare_monitor one ≡ m

monitor_at : (d : Decl Place) (m : Monitor Nowhere) → bare_decl d ≡ monitor m → MonitorAt d m
monitor_at (monitor k) m same = record { one = k; is = refl; like = cc }
monitor_at d m same = absurd cc

module _ (t : TaskTable) (begun : IsBegun t) (g : Prog Place) (like : bare g ≡ program_with (made_tail t) t) (are : Every (IsDeclOf (made_tail t) t) g.decls) where
  abbrev tail : Name
  tail = made_tail t

  abbrev site : Site
  site = outer t begun g like are

  abbrev pub known : Names
  known = all_names t begun g like are

  -- what a declaration of the program is known as
  pub decl_known : (d : Decl Place) → Elem d g.decls → first known (decl_name d).0 ≡ Some (decl_name d).1
  decl_known d e = first_of known (decl_name d) (all_apart t begun g like are) (inr (decl_there tail t d g.decls are e))

  event_known : (e : Name) → Elem (event e tt) (program_with tail t).decls → kind_of (first known e) ≡ Some kind_is.Event
  event_known e there =
      let it = source_of bare_decl g.decls (program_with tail t).decls (event e tt) (ap (λ x. x.decls) like) there in
      let d = event_at it.one e it.like in
      ap (λ o. kind_of o) (decl_known (event e d.at) (subst (λ x. Elem x g.decls) d.is it.there))

  record MonitorKnown (name : Name) : Type 0 where
    one : Monitor Place
    there : Elem (monitor one) g.decls
    same_one : bare_monitor one ≡ table_monitor tail t name
    means : first known name ≡ Some (record { place = one.place; kind = kind_is.Monitor })

  monitor_known : (name : Name) → Elem (monitor (table_monitor tail t name)) (program_with tail t).decls → MonitorKnown name
  monitor_known name there =
      let it = source_of bare_decl g.decls (program_with tail t).decls (monitor (table_monitor tail t name)) (ap (λ x. x.decls) like) there in
      let m = monitor_at it.one (table_monitor tail t name) it.like in
      let in_it = subst (λ x. Elem x g.decls) m.is it.there in
      record { one = m.one; there = in_it; same_one = m.like; means = ap (first known) (sym (ap (λ x. x.name) m.like)) ∙ decl_known (monitor m.one) in_it }

  -- a name of the table is not x
  pub not_x : (n : Name) → Contains (names t) n → same n (of_x tail) ≡ false
  not_x n there = differs n (of_x tail) (λ e. is_free t begun n (codes "x") there (0, omega arith, refl) e)

  module _ (line : TaskLine) (listed : Elem line t.tasks) where
    event_there : (e : Name) → line.event ≡ Some e → Elem (event e tt) (program_with tail t).decls
    event_there e is = elem_left (event e tt) (flat_map (λ p. event_of p.event) t.tasks) _ (elem_flat (λ p. event_of p.event) (event e tt) line t.tasks (elem_event line.event e is) listed)

    pub event_named : (e : Name) → line.event ≡ Some e → Contains (names t) e
    event_named e is =
        let in_tasks = elem_flat (λ p. p.name ∷ option_to_list p.event) e line t.tasks (inr (elem_some line.event e is)) listed in
        elem_of (λ n. Contains (names t) n) e (t.name ∷ flat_map of_table.task_names t.tasks) (tasks_there t) (inr in_tasks)

    monitor_in : (s : TaskStay) → Elem s line.stays → Elem s.monitor (of_table.monitors t)
    monitor_in s e = elem_distinct same_name same_is s.monitor (names_of_monitors t) (elem_map (λ z. z.monitor) s (stays t) (elem_flat (λ p. p.stays) s line t.tasks e listed))

    monitor_there : (s : TaskStay) → Elem s line.stays → Elem (monitor (table_monitor tail t s.monitor)) (program_with tail t).decls
    monitor_there s e =
        elem_right (monitor (table_monitor tail t s.monitor)) (flat_map (λ p. event_of p.event) t.tasks) _
        (elem_left (monitor (table_monitor tail t s.monitor)) (map (λ name. monitor (table_monitor tail t name)) (of_table.monitors t)) _
        (elem_map (λ name. monitor (table_monitor tail t name)) s.monitor (of_table.monitors t) (monitor_in s e)))

    ticks_in : (s : TaskStay) → Elem s line.stays → Elem s.ticks (stays_in t s.monitor)
    ticks_in s e = elem_distinct nat_eq eqb-true s.ticks _
        (elem_map (λ z. z.ticks) s _ (elem_filter (λ z. same_name s.monitor z.monitor) s (stays t) (same_self s.monitor) (elem_flat (λ p. p.stays) s line t.tasks e listed)))

    monitor_named : (s : TaskStay) → Elem s line.stays → Contains (names t) s.monitor
    monitor_named s e = elem_of (λ n. Contains (names t) n) s.monitor (of_table.monitors t) (monitors_there t) (monitor_in s e)

    process_fine : LineFits line → (p : Process Place) → bare_process p ≡ table_process tail line → (more : List Occurrence) → Fine more → Fine (process_names site p more)
    process_fine fit p same_p more fine =
        let is = process_is tail line fit p same_p in
        let at : Declared = record { place = is.x.one.place; kind = kind_is.Variable } in
        let scope : Names = (of_x tail, at) ∷ [] in
        let here : Site = inside scope site in
        let own = is.x.called in
        let outside : (n : Name) → Contains (names t) n → here.means n ≡ first known n = λ n there. ap (λ b. or_else (if b then Some at else None) (first known n)) (not_x n there) in
        let may : (m e : Name) → May line tail m e → (kind_of (here.means m) ≡ Some kind_is.Monitor) × (kind_of (through here m e) ≡ Some kind_is.Entry) = λ m e it. (
        let s = it.0 in
        let known_m = monitor_known s.monitor (monitor_there s it.1) in
        let means : here.means m ≡ Some (record { place = known_m.one.place; kind = kind_is.Monitor }) =
        ap here.means it.2 ∙ outside s.monitor (monitor_named s it.1) ∙ known_m.means in
        let entry_names_are = entries_called t begun g like are known_m.one.entries (stays_in t s.monitor) (ap (λ x. x.entries) known_m.same_one) in
        let entry_in = subst (λ ns. Elem (stay_name s.ticks ++ tail) ns) (sym entry_names_are) (elem_map (λ n. stay_name n ++ tail) s.ticks (stays_in t s.monitor) (ticks_in s it.1)) in
        let found = entry_found known_m.one (same-itself known_m.one.place) g.decls known_m.there (stay_name s.ticks ++ tail) entry_in in
        (ap kind_of means, ap (λ o. kind_of (members_of here o e)) means ∙ ap (λ n. kind_of (first (entries_at g.decls known_m.one.place) n)) it.3 ∙ found)) in
        let left = line.cost - least_cost line in
        let allowed = each_of (λ s. May line tail s.monitor (stay_name s.ticks ++ tail)) line.stays (λ s e. (s, e, refl, refl)) in
        let spends = spending tail (May line tail) left (spend tail left) (spent tail left fit.met (omega (arith, fit.cost_few))) in
        let body_is = calling tail (May line tail) line.stays (spend tail left) allowed spends p.body (ap (λ x. x.body) same_p) in
        let tells : Tells tail (May line tail) here = record { x = variable_there tail at refl site; i = i_free t begun g like are; j = j_free t begun g like are; may = may } in
        let last = closes p.close p.close_place p.name ∷ more in
        let close : same p.close p.name ≡ true = ap (λ n. same n p.name) (ap (λ x. x.close) same_p ∙ sym (ap (λ x. x.name) same_p)) ∙ same_self p.name in
        let ended : Fine last = (close, fine) in
        let handled : Fine (optional_names (handler_names here) p.handler last) = subst (λ h. Fine (optional_names (handler_names here) h last)) (sym is.handler) ended in
        let body = body_fine tail (May line tail) here tells p.body body_is (optional_names (handler_names here) p.handler last) handled in
        let statements = stmts_names here p.body (optional_names (handler_names here) p.handler last) in
        let owned : Fine (routines_names here p.routines statements) = subst (λ rs. Fine (routines_names here rs statements)) (sym is.routines) body in
        let own_names = routines_names here p.routines statements in
        let vars : Fine (vars_names here p.vars own_names) =
        subst (λ vs. Fine (vars_names here vs own_names)) (sym is.x.is) (subst (λ (k : Kind Place). Fine (kind_names here k own_names)) (sym is.x.whole) owned) in
        let knows : (e : Name) → line.event ≡ Some e → kind_of (here.means e) ≡ Some kind_is.Event = λ e has. ap kind_of (outside e (event_named e has)) ∙ event_known e (event_there e has) in
        let inner : Fine (process_inner here p more) = activated here line line.event knows p.activation (ap (λ x. x.activation) same_p) (vars_names here p.vars own_names) vars in
        let scoped : Fine (declarations site.means [] scope (process_inner (inside scope site) p more)) = (ap (λ o. not (false || is_some o)) (x_free t begun g like are), inner) in
        let scope_is : process_scope p ≡ scope = (λ i. map var_name (is.x.is i) ++ map routine_name (is.routines i)) ∙ (λ i. (own i, at) ∷ []) in
        subst (λ (ds : Names). Fine (declarations site.means [] ds (process_inner (inside ds site) p more))) (sym scope_is) scoped

  -- ---- all declarations

  abbrev Inner : Decl Place → Type 0
  Inner d = (more : List Occurrence) → Fine more → Fine (inner_names site d more)

  abbrev LikeInner : Decl Nowhere → Type 0
  LikeInner d = (x : Decl Place) → bare_decl x ≡ d → Inner x

  event_inner : (e : Name) → LikeInner (event e tt)
  event_inner e (event n p) is more fine = fine
  event_inner e d is more fine = absurd cc

  monitor_inner_fine : (name : Name) → LikeInner (monitor (table_monitor tail t name))
  monitor_inner_fine name (monitor m) is more fine =
      (let same_m : bare_monitor m ≡ table_monitor tail t name = cc in monitor_fine t begun g like are name m (monitor_is tail t (table_fits t begun) name m same_m) more fine)
  monitor_inner_fine name d is more fine = absurd cc

  process_inner_fine : (line : TaskLine) → Elem line t.tasks → LineFits line → LikeInner (process (table_process tail line))
  process_inner_fine line listed fit (process p) is more fine =
      (let same_p : bare_process p ≡ table_process tail line = cc in process_fine line listed fit p same_p more fine)
  process_inner_fine line listed fit d is more fine = absurd cc

  events_inner : (o : Option Name) → Every LikeInner (event_of o)
  events_inner None = tt
  events_inner (Some e) = (event_inner e, tt)

  all_inner : Every Inner g.decls
  all_inner = pulled bare_decl Inner g.decls (program_with tail t).decls (ap (λ x. x.decls) like)
      (both LikeInner (flat_map (λ p. event_of p.event) t.tasks) _ (every_flat LikeInner (λ p. event_of p.event) t.tasks (each_of (λ p. Every LikeInner (event_of p.event)) t.tasks (λ p e. events_inner p.event)))
      (both LikeInner (map (λ name. monitor (table_monitor tail t name)) (of_table.monitors t)) _
      (every_map LikeInner (λ name. monitor (table_monitor tail t name)) (of_table.monitors t) (each_of (λ name. LikeInner (monitor (table_monitor tail t name))) (of_table.monitors t) (λ name e. monitor_inner_fine name)))
      (every_map LikeInner (λ p. process (table_process tail p)) t.tasks
      (each_of (λ p. LikeInner (process (table_process tail p))) t.tasks (λ p e. process_inner_fine p e (elem_of LineFits p t.tasks (table_fits t begun).tasks e))))))

  -- ---- the whole

  decl_names_of : (ds : List (Decl Place)) → Every (IsDeclOf tail t) ds → map (λ d. (decl_name d).0) ds ≡ map (λ d. d.0) (others ds)
  decl_names_of [] all = refl
  decl_names_of (d ∷ ds) all = one d all.0 (decl_names_of ds all.1)
    where
      one : (d : Decl Place) → IsDeclOf tail t d → map (λ c. (decl_name c).0) ds ≡ map (λ c. c.0) (others ds) → map (λ c. (decl_name c).0) (d ∷ ds) ≡ map (λ c. c.0) (others (d ∷ ds))
      one d (an_event name place) rest = ap (λ (ns : List Name). name ∷ ns) rest
      one d (a_monitor name m is) rest = ap (λ (ns : List Name). m.name ∷ ns) rest
      one d (a_process line p is) rest = ap (λ (ns : List Name). p.name ∷ ns) rest

  far_from_name : (ds : List (Decl Place)) → Every (λ n. g.name ≢ n) (map (λ d. (decl_name d).0) ds) → Every (λ d. first (program_name g ∷ []) (decl_name d).0 ≡ None) ds
  far_from_name [] all = tt
  far_from_name (d ∷ ds) all =
      (ap (λ b. if b then Some (program_name g).1 else None) (differs (decl_name d).0 g.name (λ e. all.0 (sym e))), far_from_name ds all.1)

  pub all_named : IsNamed g
  all_named =
      let apart = all_apart t begun g like are in
      let own = decl_names_of g.decls are in
      let close : same g.close g.name ≡ true = ap (λ n. same n g.name) (ap (λ x. x.close) like ∙ sym (ap (λ x. x.name) like)) ∙ same_self g.name in
      let told = walk tail t known (members t begun g like are) g.decls (program_name g ∷ []) refl are
      (far_from_name g.decls (subst (λ ns. Every (λ n. g.name ≢ n) ns) (sym own) apart.0)) (subst Apart (sym own) apart.1) all_inner
      (closes g.close g.close_place g.name ∷ []) (close, tt) in
      named g (refl, told)
