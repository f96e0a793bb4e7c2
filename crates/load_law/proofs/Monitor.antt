-- No name in the monitor of the load is refused.
use Rattle.std.proofs.Common.{◌≡◌, true, List, [], ◌∷◌, ◌++◌, None, codes, map, refl, ap, sym, ◌∙◌, subst}
use Rattle.std.specs.Prelude.{is_some, not}
use Rattle.syntax_tree.specs.Plain.{Name}
use Rattle.syntax_tree.specs.declared.place.Place.{Place}
use Rattle.syntax_tree.specs.Placed.{int, Routine, variable_member, condition_member, Monitor}
use Rattle.syntax_tree.specs.Bare.{bare_scalar, bare_expr, bare_var, bare_param, bare_routine, bare_monitor}
use Rattle.static_names.specs.declared.kind.Declared.{Declared}
use Rattle.static_names.specs.declared.kind.Kind.TheVariants as kind_is
use Rattle.static_names.specs.Reach.{Names, Site, inside, inside_monitor}
use Rattle.static_names.specs.Occurrences.{Occurrence, closes, declarations, param_name, var_name, member_name, entry_name, scalar_names, expr_names, stmts_names, optional_names, vars_names, params_names, members_names, routine_scope, routine_inner, routine_names, routines_names, monitor_scope, monitor_inner, monitor_names}
use Rattle.load.specs.Program.{Nowhere, add_entry, pause_entry, load_monitor}
use Rattle.load_text_law.proofs.Shapes.{one_of, none_of, none_there}
use Rattle.load_law.proofs.Knowing.{Known, free, Agrees, agrees, enter}
use Rattle.load_law.proofs.Fine.{Fine}
use Rattle.load_law.proofs.LoadNamesStatements.{stmts_right, stmts_fine}
use Rattle.load_law.proofs.Plain.{same_self, scalar_fine, kind_fine}
use Rattle.load_law.proofs.Members.{has_members, has_entries}
use Rattle.load_law.proofs.Outside.{outside, in_monitor, in_add}

-- ---- entries

-- the parameters aside
routine_fine : (es : Known) (here : Site) → Agrees es here → (r : Routine Place) (q : Routine Nowhere) → bare_routine r ≡ q → q.result ≡ None → q.vars ≡ [] → q.value ≡ None
    → q.close ≡ q.name → stmts_right es q.body ≡ true → (more : List Occurrence) → Fine more
    → Fine (optional_names (scalar_names here) r.result (vars_names here r.vars (stmts_names here r.body (optional_names (expr_names here) r.value (closes r.close r.close_place r.name ∷ more)))))
routine_fine es here all r q same no_result no_vars no_value close right more fine =
    let closing : r.close ≡ r.name = ap (λ x. x.close) same ∙ close ∙ sym (ap (λ x. x.name) same) in
    let last = closes r.close r.close_place r.name ∷ more in
    let ended : Fine last = (same_self r.close r.name closing, fine) in
    let value = none_there bare_expr r.value (ap (λ x. x.value) same ∙ no_value) in
    let valued : Fine (optional_names (expr_names here) r.value last) = subst (λ o. Fine (optional_names (expr_names here) o last)) (sym value) ended in
    let told = stmts_fine es here all r.body (optional_names (expr_names here) r.value last) (ap (λ x. stmts_right es x.body) same ∙ right) valued in
    let body = stmts_names here r.body (optional_names (expr_names here) r.value last) in
    let none = none_of bare_var r.vars (ap (λ x. x.vars) same ∙ no_vars) in
    let vars : Fine (vars_names here r.vars body) = subst (λ vs. Fine (vars_names here vs body)) (sym none) told in
    let result = none_there bare_scalar r.result (ap (λ x. x.result) same ∙ no_result) in
    subst (λ o. Fine (optional_names (scalar_names here) o (vars_names here r.vars body))) (sym result) vars

add_fine : (outer : Site) → Agrees in_monitor outer → (r : Routine Place) → bare_routine r ≡ add_entry → (more : List Occurrence) → Fine more → Fine (routine_names outer r more)
add_fine outer all r same more fine =
    let v = one_of bare_param r.params (record { name = codes "v"; place = tt; kind = int }) (ap (λ x. x.params) same) in
    let none = none_of bare_var r.vars (ap (λ x. x.vars) same) in
    let name : v.one.name ≡ codes "v" = ap (λ x. x.name) v.like in
    let at : Declared = record { place = v.one.place; kind = kind_is.Variable } in
    let params = v.is in
    let scope : routine_scope r ≡ (codes "v", at) ∷ [] = (λ i. map param_name (params i) ++ map var_name (none i)) ∙ (λ i. (name i, at) ∷ []) in
    let here = inside ((codes "v", at) ∷ []) outer in
    let rest = routine_fine in_add here (enter in_monitor (codes "v", at) outer all) r add_entry same refl refl refl refl refl more fine in
    let others = optional_names (scalar_names here) r.result (vars_names here r.vars (stmts_names here r.body (optional_names (expr_names here) r.value (closes r.close r.close_place r.name ∷ more)))) in
    let whole : Fine (params_names here r.params others) =
    subst (λ vs. Fine (params_names here vs others)) (sym params) (scalar_fine here v.one.kind others (ap (λ x. x.kind) v.like) rest) in
    let taken : not (is_some (outer.means (codes "v"))) ≡ true = ap (λ o. not (is_some o)) (all (codes "v") free refl) in
    subst (λ (ds : Names). Fine (declarations outer.means [] ds (routine_inner (inside ds outer) r more))) (sym scope) (taken, whole)

pause_fine : (outer : Site) → Agrees in_monitor outer → (r : Routine Place) → bare_routine r ≡ pause_entry → (more : List Occurrence) → Fine more → Fine (routine_names outer r more)
pause_fine outer all r same more fine =
    let no_params = none_of bare_param r.params (ap (λ x. x.params) same) in
    let none = none_of bare_var r.vars (ap (λ x. x.vars) same) in
    let scope : routine_scope r ≡ [] = λ i. map param_name (no_params i) ++ map var_name (none i) in
    let rest = routine_fine in_monitor outer all r pause_entry same refl refl refl refl refl more fine in
    let others = optional_names (scalar_names outer) r.result (vars_names outer r.vars (stmts_names outer r.body (optional_names (expr_names outer) r.value (closes r.close r.close_place r.name ∷ more)))) in
    let whole : Fine (params_names outer r.params others) = subst (λ vs. Fine (params_names outer vs others)) (sym no_params) rest in
    subst (λ (ds : Names). Fine (declarations outer.means [] ds (routine_inner (inside ds outer) r more))) (sym scope) whole

-- ---- the whole

record IsScope (m : Monitor Place) : Type 0 where
  n : Place
  c : Place
  add : Place
  pause : Place
  is : monitor_scope m ≡ (codes "n", record { place = n; kind = kind_is.Variable }) ∷ (codes "c", record { place = c; kind = kind_is.Condition }) ∷ (codes "add", record { place = add; kind = kind_is.Entry }) ∷ (codes "pause", record { place = pause; kind = kind_is.Entry }) ∷ []

its_scope : (m : Monitor Place) → bare_monitor m ≡ load_monitor → IsScope m
its_scope m same =
    let members = has_members m same in
    let entries = has_entries m same in
    let n : members.one.name ≡ codes "n" = ap (λ x. x.name) members.like in
    let add : entries.add.name ≡ codes "add" = ap (λ x. x.name) entries.add_like in
    let pause : entries.pause.name ≡ codes "pause" = ap (λ x. x.name) entries.pause_like in
    let a = members.is in
    let b = entries.is in
    record {
      n = members.one.place;
      c = members.at;
      add = entries.add.place;
      pause = entries.pause.place;
      is = (λ i. map member_name (a i) ++ map entry_name (b i))
          ∙ (λ i. (n i, record { place = members.one.place; kind = kind_is.Variable }) ∷ (codes "c", record { place = members.at; kind = kind_is.Condition })
          ∷ (add i, record { place = entries.add.place; kind = kind_is.Entry }) ∷ (pause i, record { place = entries.pause.place; kind = kind_is.Entry }) ∷ []);
    }

pub monitor_fine : (outer : Site) → Agrees outside outer → (m : Monitor Place) → bare_monitor m ≡ load_monitor → (more : List Occurrence) → Fine more → Fine (monitor_names outer m more)
monitor_fine outer all m same more fine =
    let s = its_scope m same in
    let scope : Names = (codes "n", record { place = s.n; kind = kind_is.Variable }) ∷ (codes "c", record { place = s.c; kind = kind_is.Condition }) ∷ (codes "add", record { place = s.add; kind = kind_is.Entry }) ∷ (codes "pause", record { place = s.pause; kind = kind_is.Entry }) ∷ [] in
    let here = inside_monitor m.place scope outer in
    let no_v : outer.means (codes "v") ≡ None = all (codes "v") free refl in
    let known = agrees in_monitor here (refl, (refl, (no_v, tt))) in
    let members = has_members m same in
    let entries = has_entries m same in
    let closing : m.close ≡ m.name = ap (λ x. x.close) same ∙ sym (ap (λ x. x.name) same) in
    let last = closes m.close m.close_place m.name ∷ more in
    let ended : Fine last = (same_self m.close m.name closing, fine) in
    let pause = pause_fine here known entries.pause entries.pause_like last ended in
    let add = add_fine here known entries.add entries.add_like (routine_names here entries.pause last) pause in
    let routines : Fine (routines_names here m.entries last) = subst (λ rs. Fine (routines_names here rs last)) (sym entries.is) add in
    let own = routines_names here m.entries last in
    let counted : Fine (members_names here (variable_member members.one ∷ condition_member (codes "c") members.at ∷ []) own) =
    kind_fine here members.one.kind own (ap (λ x. x.kind) members.like) routines in
    let whole : Fine (monitor_inner here m more) = subst (λ ms. Fine (members_names here ms own)) (sym members.is) counted in
    let untaken : (name : Name) → outer.means name ≡ None → not (is_some (outer.means name)) ≡ true = λ name none. ap (λ o. not (is_some o)) none in
    subst (λ (ds : Names). Fine (declarations outer.means [] ds (monitor_inner (inside_monitor m.place ds outer) m more))) (sym s.is) (
      untaken (codes "n") (all (codes "n") free refl),
      (
        untaken (codes "c") (all (codes "c") free refl),
        (untaken (codes "add") (all (codes "add") free refl), (untaken (codes "pause") (all (codes "pause") free refl), whole)),
      ),
    )
