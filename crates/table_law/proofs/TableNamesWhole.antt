-- No name of a table's program is refused.
use Rattle.std.proofs.Common.{◌≡◌, ◌≢◌, ◌≤◌, ◌<◌, ◌+◌, ◌^◌, ℕ, zero, suc, inl, inr, Bool, true, false, not, ◌||◌, ◌&&◌, nat_eq, List, [], ◌∷◌, ◌++◌, Option, Some, None, codes, decimal, map, refl, ap, sym, ◌∙◌, subst, arith}
use Rattle.std.specs.Prelude.{Contains, filter, is_some, if◌then◌else◌}
use Rattle.std.proofs.lemmas.Bool.{eq-eqb}
use Rattle.std.proofs.lemmas.Fmt.{decimal_injective}
use Rattle.std.proofs.lemmas.List.{append_cancel_left, append_cancel_right}
use Rattle.syntax_tree.specs.Plain.{Name}
use Rattle.syntax_tree.specs.declared.place.Place.{Place}
use Rattle.syntax_tree.specs.Placed.{Kind, Var, Routine, Monitor, Decl, monitor, Prog, scalar, int}
use Rattle.syntax_tree.specs.Bare.{bare_routine, bare_monitor, bare}
use Rattle.static_names.specs.declared.kind.Declared.{Declared}
use Rattle.static_names.specs.declared.kind.Kind.TheVariants as kind_is
use Rattle.static_names.specs.Reach.{same, Names, Reach, first, or_else, within, Site, inside, inside_monitor}
use Rattle.static_names.specs.Occurrences.{Occurrence, closes, declarations, param_name, var_name, member_name, entry_name, params_names, optional_names, scalar_names, expr_names, kind_names, vars_names, stmts_names, routine_scope, routine_inner, routine_names, routines_names, members_names, monitor_scope, monitor_inner, monitor_names, others, entries_at, program_name}
use Rattle.table_format.specs.declared.table.TaskTable.{TaskTable}
use Rattle.table_format.specs.Spending.{of_x}
use Rattle.table_format.specs.Rules.{names, stays, same_name, IsBegun}
use Rattle.table_format.specs.Program.{stay_name, made_names, made_tail, stay_entry, stays_in, program_with}
use Rattle.table_law.proofs.Lists.{Every, every_map, every_filter, every_distinct, of_map, weaker}
use Rattle.table_law.proofs.Few.{AllDiffer, distinct_differ, same_self}
use Rattle.table_law.proofs.Fits.{TicksFit, stays_in_fit, table_fits}
use Rattle.table_law.proofs.Shapes.{Nothing, OneInt, IsEntryOf, IsSomeEntry, IsMonitorOf, IsDeclOf}
use Rattle.table_law.proofs.Free.{is_free}
use Rattle.table_law.proofs.Fine.{is_fine, Fine}
use Rattle.table_law.proofs.Apart.{Apart, contains_each, names_apart, names_there, program_names}
use Rattle.table_law.proofs.Bodies.{kind_of, Tells, body_fine}
use Rattle.table_law.proofs.Firsts.{differs, none_first, first_more}
use Rattle.table_law.proofs.Sites.{names_are}

-- ---- the names of a scope

pub scope_fine : (outside : Reach) (earlier ds : Names) (rest : List Occurrence) → Every (λ d. first earlier d.0 ≡ None) ds → Every (λ d. outside d.0 ≡ None) ds → Apart (map (λ d. d.0) ds)
    → Fine rest → Fine (declarations outside earlier ds rest)
scope_fine outside earlier [] rest free out apart fine = fine
scope_fine outside earlier (d ∷ ds) rest free out apart fine =
    let a = free.0 in
    let b = out.0 in
    ((λ i. not (is_some (a i) || is_some (b i))), scope_fine outside (earlier ++ d ∷ []) ds rest (still ds free.1 apart.0) out.1 apart.1 fine)
  where
    still : (cs : Names) → Every (λ c. first earlier c.0 ≡ None) cs → Every (λ n. d.0 ≢ n) (map (λ c. c.0) cs) → Every (λ c. first (earlier ++ d ∷ []) c.0 ≡ None) cs
    still [] more far = tt
    still (c ∷ cs) more far = (first_more earlier d c.0 more.0 (differs c.0 d.0 (λ is. far.0 (sym is))), still cs more.1 far.1)

all_new : (ds : Names) → Every (λ d. first [] d.0 ≡ None) ds
all_new [] = tt
all_new (d ∷ ds) = (refl, all_new ds)

module _ (tail : Name) where
  -- a body around which x, i and j mean nothing
  pub record IsOutside (here : Site) : Type 0 where
    pub x : here.means (of_x tail) ≡ None
    pub i : here.means (codes "i" ++ tail) ≡ None
    pub j : here.means (codes "j" ++ tail) ≡ None

  pub variable_there : (at : Declared) → at.kind ≡ kind_is.Variable → (here : Site) → kind_of ((inside ((of_x tail, at) ∷ []) here).means (of_x tail)) ≡ Some kind_is.Variable
  variable_there at kind here = ap (λ b. kind_of (within (λ n. if b then Some at else None) here.means (of_x tail))) (same_self (of_x tail)) ∙ ap (λ k. Some k) kind

  entry_fine : (ticks : ℕ) (r : Routine Place) → IsEntryOf tail ticks r → (here : Site) → IsOutside here → (more : List Occurrence) → Fine more → Fine (routine_names here r more)
  entry_fine ticks r is here out more fine =
      let at : Declared = record { place = is.x.one.place; kind = kind_is.Variable } in
      let scope : Names = (of_x tail, at) ∷ [] in
      let called = is.x.called in
      let inner : Site = inside scope here in
      let last = closes r.close r.close_place r.name ∷ more in
      let close : same r.close r.name ≡ true = ap (λ n. same n r.name) (ap (λ x. x.close) is.like ∙ sym (ap (λ x. x.name) is.like)) ∙ same_self r.name in
      let ended : Fine last = (close, fine) in
      let valued : Fine (optional_names (expr_names inner) r.value last) = subst (λ o. Fine (optional_names (expr_names inner) o last)) (sym is.value) ended in
      let tells : Tells tail Nothing inner = record { x = variable_there at refl here; i = out.i; j = out.j; may = λ m e none. absurd none } in
      let body = body_fine tail Nothing inner tells r.body is.body (optional_names (expr_names inner) r.value last) valued in
      let statements = stmts_names inner r.body (optional_names (expr_names inner) r.value last) in
      let vars : Fine (vars_names inner r.vars statements) =
      subst (λ vs. Fine (vars_names inner vs statements)) (sym is.x.is) (subst (λ (k : Kind Place). Fine (kind_names inner k statements)) (sym is.x.whole) body) in
      let told : Fine (optional_names (scalar_names inner) r.result (vars_names inner r.vars statements)) =
      subst (λ o. Fine (optional_names (scalar_names inner) o (vars_names inner r.vars statements))) (sym is.result) vars in
      let all : Fine (routine_inner inner r more) =
      subst (λ ps. Fine (params_names inner ps (optional_names (scalar_names inner) r.result (vars_names inner r.vars statements)))) (sym is.params) told in
      let scoped : Fine (declarations here.means [] scope (routine_inner (inside scope here) r more)) = (ap (λ o. not (false || is_some o)) out.x, all) in
      let scope_is : routine_scope r ≡ scope =
      (λ i. map param_name (is.params i) ++ map var_name (is.x.is i)) ∙ (λ i. (called i, at) ∷ []) in
      subst (λ (ds : Names). Fine (declarations here.means [] ds (routine_inner (inside ds here) r more))) (sym scope_is) scoped

  pub entries_fine : (rs : List (Routine Place)) → Every (IsSomeEntry tail) rs → (here : Site) → IsOutside here → (more : List Occurrence) → Fine more → Fine (routines_names here rs more)
  entries_fine [] are here out more fine = fine
  entries_fine (r ∷ rs) are here out more fine = entry_fine are.0.ticks r are.0.is here out (routines_names here rs more) (entries_fine rs are.1 here out more fine)

  -- ---- the entries of a monitor

  ticks_apart : (ns : List ℕ) → Every TicksFit ns → AllDiffer nat_eq ns → Apart (map (λ n. stay_name n ++ tail) ns)
  ticks_apart [] fits all = tt
  ticks_apart (n ∷ ns) fits all = (far ns fits.1 all.0, ticks_apart ns fits.1 all.1)
    where
      not_equal : (m : ℕ) → nat_eq n m ≡ false → n ≡ m → ⊥
      not_equal m is same = (let e = eq-eqb n m same in absurd cc)

      far : (ms : List ℕ) → Every TicksFit ms → Every (λ m. nat_eq n m ≡ false) ms → Every (λ y. (stay_name n ++ tail) ≢ y) (map (λ m. stay_name m ++ tail) ms)
      far [] fit differ = tt
      far (m ∷ ms) fit differ = (
        (λ same. not_equal m differ.0 (decimal_injective n m (omega (arith, fits.0.few)) (omega (arith, fit.0.few))
            (append_cancel_left (codes "stay") (decimal n) (decimal m) (append_cancel_right (stay_name n) (stay_name m) tail same)))),
        far ms fit.1 differ.1,
      )

  no_letter : (letter : ℕ) → nat_eq letter 115 ≡ false → (ns : List ℕ) → Every (λ y. same (letter ∷ tail) y ≡ false) (map (λ n. stay_name n ++ tail) ns)
  no_letter letter is [] = tt
  no_letter letter is (n ∷ ns) = (ap (λ b. b && same tail (codes "tay" ++ (decimal n ++ tail))) is, no_letter letter is ns)

-- ---- a table

pub stays_made : (t : TaskTable) → (name : Name) → Every (λ n. Contains (made_names t) (stay_name n)) (stays_in t name)
stays_made t name =
    let all = contains_each (made_names t) in
    let P : ℕ → Type 0 = λ n. Contains (made_names t) (stay_name n) in
    every_distinct P nat_eq _ (every_map P (λ s. s.ticks) _ (every_filter (λ s. P s.ticks) (λ s. same_name name s.monitor) (stays t)
    (of_map (λ n. Contains (made_names t) n) (λ s. stay_name s.ticks) (stays t) all.1.1.1)))

module _ (t : TaskTable) (begun : IsBegun t) (g : Prog Place) (like : bare g ≡ program_with (made_tail t) t) (are : Every (IsDeclOf (made_tail t) t) g.decls) where
  abbrev tail : Name
  tail = made_tail t

  abbrev pub all_names : Names
  all_names = program_name g ∷ others g.decls

  abbrev pub members : Place → Reach
  members place = first (entries_at g.decls place)

  abbrev pub outer : Site
  outer = record { means = first all_names; members = members }

  pub called : map (λ d. d.0) all_names ≡ t.name ∷ program_names t
  called = (let one = ap (λ x. x.name) like in let more = names_are tail t g like are in λ i. one i ∷ more i)

  pub all_apart : Apart (map (λ d. d.0) all_names)
  all_apart = subst Apart (sym called) (names_apart t begun)

  pub all_there : Every (λ n. Contains (names t) n) (map (λ d. d.0) all_names)
  all_there = subst (λ ns. Every (λ n. Contains (names t) n) ns) (sym called) (names_there t)

  -- a made name means nothing outside
  free : (made : Name) → Contains (made_names t) made → first all_names (made ++ tail) ≡ None
  free made there = none_first all_names (made ++ tail)
      (of_map (λ n. same (made ++ tail) n ≡ false) (λ d. d.0) all_names
      (weaker (λ n. Contains (names t) n) (λ n. same (made ++ tail) n ≡ false) (λ n has. differs (made ++ tail) n (λ e. is_free t begun n made has there (sym e)))
      (map (λ d. d.0) all_names) all_there))

  pub x_free : first all_names (of_x tail) ≡ None
  x_free = free (codes "x") (0, omega arith, refl)

  pub i_free : first all_names (codes "i" ++ tail) ≡ None
  i_free = free (codes "i") (1, omega arith, refl)

  pub j_free : first all_names (codes "j" ++ tail) ≡ None
  j_free = free (codes "j") (2, omega arith, refl)

  stays_free : (ns : List ℕ) → Every (λ n. Contains (made_names t) (stay_name n)) ns → Every (λ n. first all_names n ≡ None) (map (λ n. stay_name n ++ tail) ns)
  stays_free [] all = tt
  stays_free (n ∷ ns) all = (free (stay_name n) all.0, stays_free ns all.1)

  -- ---- monitors

  pub entries_called : (rs : List (Routine Place)) (ns : List ℕ) → map bare_routine rs ≡ map (stay_entry tail) ns → map (λ d. d.0) (map entry_name rs) ≡ map (λ n. stay_name n ++ tail) ns
  entries_called [] [] is = refl
  entries_called [] (n ∷ ns) is = absurd cc
  entries_called (r ∷ rs) [] is = absurd cc
  entries_called (r ∷ rs) (n ∷ ns) is =
      (let one : bare_routine r ≡ stay_entry tail n = cc in
      let rest : map bare_routine rs ≡ map (stay_entry tail) ns = cc in
      let first_name = ap (λ x. x.name) one in
      let more = entries_called rs ns rest in
      λ i. first_name i ∷ more i)

  pub monitor_fine : (name : Name) (m : Monitor Place) → IsMonitorOf tail name t m → (more : List Occurrence) → Fine more → Fine (monitor_names outer m more)
  monitor_fine name m is more fine =
      let ns = stays_in t name in
      let scope : Names = map entry_name m.entries in
      let here : Site = inside_monitor m.place scope outer in
      let names_is = entries_called m.entries ns (ap (λ x. x.entries) is.like) in
      let last = closes m.close m.close_place m.name ∷ more in
      let close : same m.close m.name ≡ true = ap (λ n. same n m.name) (ap (λ x. x.close) is.like ∙ sym (ap (λ x. x.name) is.like)) ∙ same_self m.name in
      let ended : Fine last = (close, fine) in
      let other : (letter : ℕ) → nat_eq letter 115 ≡ false → first scope (letter ∷ tail) ≡ None = λ letter far. none_first scope (letter ∷ tail)
      (of_map (λ n. same (letter ∷ tail) n ≡ false) (λ d. d.0) scope (subst (λ ys. Every (λ n. same (letter ∷ tail) n ≡ false) ys) (sym names_is) (no_letter tail letter far ns))) in
      let out : IsOutside tail here = record {
        x = ap (λ o. or_else o (first all_names (of_x tail))) (other 120 refl) ∙ x_free;
        i = ap (λ o. or_else o (first all_names (codes "i" ++ tail))) (other 105 refl) ∙ i_free;
        j = ap (λ o. or_else o (first all_names (codes "j" ++ tail))) (other 106 refl) ∙ j_free;
      } in
      let entries = entries_fine tail m.entries is.entries here out last ended in
      let inner : Fine (monitor_inner here m more) = subst (λ ms. Fine (members_names here ms (routines_names here m.entries last))) (sym is.members) entries in
      let apart : Apart (map (λ d. d.0) scope) = subst Apart (sym names_is) (ticks_apart tail ns (stays_in_fit t (table_fits t begun) name) (distinct_differ nat_eq _)) in
      let outside_free : Every (λ d. first all_names d.0 ≡ None) scope =
      of_map (λ n. first all_names n ≡ None) (λ d. d.0) scope (subst (λ ys. Every (λ n. first all_names n ≡ None) ys) (sym names_is) (stays_free ns (stays_made t name))) in
      let scoped : Fine (declarations outer.means [] scope (monitor_inner here m more)) = scope_fine outer.means [] scope (monitor_inner here m more) (all_new scope) outside_free apart inner in
      subst (λ ms. Fine (declarations outer.means [] (map member_name ms ++ scope) (monitor_inner (inside_monitor m.place (map member_name ms ++ scope) outer) m more))) (sym is.members) scoped
