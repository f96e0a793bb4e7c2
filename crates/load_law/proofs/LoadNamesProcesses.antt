-- No name in a process of the load is refused.
use Rattle.std.proofs.Common.{◌≡◌, ℕ, Bool, true, false, List, [], ◌∷◌, ◌++◌, codes, map, refl, ap, sym, ◌∙◌, subst}
use Rattle.std.specs.Prelude.{is_some, not}
use Rattle.syntax_tree.specs.declared.place.Place.{Place}
use Rattle.syntax_tree.specs.Placed.{put, stmts, no_stmts, Handler, Process}
use Rattle.syntax_tree.specs.Bare.{bare_var, bare_routine, bare_handler, bare_process}
use Rattle.static_names.specs.declared.kind.Declared.{Declared}
use Rattle.static_names.specs.declared.kind.Kind.TheVariants as kind_is
use Rattle.static_names.specs.Reach.{Names, Site, inside}
use Rattle.static_names.specs.Occurrences.{Occurrence, closes, declarations, var_name, routine_name, vars_names, routines_names, stmts_names, optional_names, handler_names, process_scope, process_inner, process_names}
use Rattle.load.specs.declared.program.DrawnProcess.{DrawnProcess}
use Rattle.load.specs.Program.{of_name, int_variable, frame, load_body, load_handler, load_process, pause_if, is_even}
use Rattle.load_text_law.proofs.Shapes.{one_of, none_of, some_there}
use Rattle.load_law.proofs.Knowing.{free, known_as, Agrees, enter}
use Rattle.load_law.proofs.Fine.{Fine}
use Rattle.load_law.proofs.LoadNamesStatements.{stmts_right, stmts_fine}
use Rattle.load_law.proofs.Plain.{same_self, numbers_fine, kind_fine, activation_fine}
use Rattle.load_law.proofs.Outside.{outside, in_process}

ends_right : (even : Bool) → stmts_right in_process (pause_if even (stmts (put tt (codes "dst") tt (of_name (codes "x"))) no_stmts)) ≡ true
ends_right true = refl
ends_right false = refl

body_right : (number : ℕ) (d : DrawnProcess) → stmts_right in_process (load_body number d) ≡ true
body_right number d = ends_right (is_even number)

handler_fine : (here : Site) → Agrees in_process here → (h : Handler Place) → bare_handler h ≡ load_handler → (more : List Occurrence) → Fine more → Fine (handler_names here h more)
handler_fine here all h like more fine =
    numbers_fine here h.numbers 10 (stmts_names here h.body more) (ap (λ x. x.numbers) like)
    (stmts_fine in_process here all h.body more (ap (λ x. stmts_right in_process x.body) like) fine)

module _ (count number : ℕ) (d : DrawnProcess) (p : Process Place) (same : bare_process p ≡ load_process count number d) where
  inner_fine : (here : Site) → Agrees in_process here → (more : List Occurrence) → Fine more → Fine (process_inner here p more)
  inner_fine here all more fine =
      let names : p.name ≡ _ = ap (λ x. x.name) same in
      let close : p.close ≡ _ = ap (λ x. x.close) same in
      let last = closes p.close p.close_place p.name ∷ more in
      let ended : Fine last = (same_self p.close p.name (close ∙ sym names), fine) in
      let there = some_there bare_handler p.handler load_handler (ap (λ x. x.handler) same) in
      let tail = optional_names (handler_names here) p.handler last in
      let handled : Fine tail = subst (λ h. Fine (optional_names (handler_names here) h last)) (sym there.is) (handler_fine here all there.one there.like last ended) in
      let body = stmts_names here p.body tail in
      let told : Fine body = stmts_fine in_process here all p.body tail (ap (λ x. stmts_right in_process x.body) same ∙ body_right number d) handled in
      let none = none_of bare_routine p.routines (ap (λ x. x.routines) same) in
      let own = routines_names here p.routines body in
      let owned : Fine own = subst (λ rs. Fine (routines_names here rs body)) (sym none) told in
      let v = one_of bare_var p.vars (int_variable (codes "x")) (ap (λ x. x.vars) same) in
      let vars : Fine (vars_names here p.vars own) = subst (λ vs. Fine (vars_names here vs own)) (sym v.is) (kind_fine here v.one.kind own (ap (λ x. x.kind) v.like) owned) in
      activation_fine here p.activation (frame count d) (vars_names here p.vars own) (ap (λ x. x.activation) same) vars

  record IsScope : Type 0 where
    at : Declared
    kind : at.kind ≡ kind_is.Variable
    is : process_scope p ≡ (codes "x", at) ∷ []

  its_scope : IsScope
  its_scope =
      let v = one_of bare_var p.vars (int_variable (codes "x")) (ap (λ x. x.vars) same) in
      let none = none_of bare_routine p.routines (ap (λ x. x.routines) same) in
      let name : v.one.name ≡ codes "x" = ap (λ x. x.name) v.like in
      let at : Declared = record { place = v.one.place; kind = kind_is.Variable } in
      let vars = v.is in
      record {
        at = at;
        kind = refl;
        is = (λ i. map var_name (vars i) ++ map routine_name (none i)) ∙ (λ i. (name i, at) ∷ []);
      }

  pub process_fine : (outer : Site) → Agrees outside outer → (more : List Occurrence) → Fine more → Fine (process_names outer p more)
  process_fine outer all more fine =
      let s = its_scope in
      let scope : Names = (codes "x", s.at) ∷ [] in
      let here = inside scope outer in
      let inner = enter outside (codes "x", s.at) outer all in
      let known : Agrees in_process here = subst (λ k. Agrees ((codes "x", known_as k) ∷ outside) here) s.kind inner in
      let after : Fine (process_inner here p more) = inner_fine here known more fine in
      let taken : not (is_some (outer.means (codes "x"))) ≡ true = ap (λ o. not (is_some o)) (all (codes "x") free refl) in
      subst (λ (ds : Names). Fine (declarations outer.means [] ds (process_inner (inside ds outer) p more))) (sym s.is) (taken, after)
