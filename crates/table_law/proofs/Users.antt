-- Each event of a table's program activates one process.
use Rattle.std.proofs.Common.{◌≡◌, ◌≢◌, ◌≤◌, ◌<◌, ◌+◌, ℕ, zero, suc, inl, inr, Bool, true, false, ◌||◌, ◌&&◌, nat_eq, List, [], ◌∷◌, ◌++◌, Option, Some, None, length, map, get_or, refl, ap, sym, ◌∙◌, subst, append_assoc, arith}
use Rattle.std.specs.Prelude.{Contains, cond, flat_map, is_some, if◌then◌else◌}
use Rattle.std.proofs.lemmas.Bool.{eq-eqb}
use Rattle.syntax_tree.specs.Plain.{Name}
use Rattle.syntax_tree.specs.declared.place.Place.{Place}
use Rattle.syntax_tree.specs.Placed.{Constant, periodic, at_event, Activation, Process, Decl, constant, device, event, routine, monitor, process, Prog}
use Rattle.syntax_tree.specs.Bare.{bare_process, bare_decl, bare}
use Rattle.syntax_tree.specs.Parts.{same_place, events, processes}
use Rattle.static_names.specs.declared.kind.Declared.{Declared}
use Rattle.static_names.specs.declared.kind.Kind.TheVariants as kind_is
use Rattle.static_names.specs.declared.kind.NameUse.{NameUse}
use Rattle.static_names.specs.declared.kind.NameUse.TheVariants as want_is
use Rattle.static_names.specs.Reach.{same, Names, Reach, first, or_else, Site, inside}
use Rattle.static_names.specs.Occurrences.{Occurrence, closes, used, declared_at, vars_names, routines_names, stmts_names, optional_names, handler_names, var_name, routine_name, process_scope, decl_name, others, entries_at, declarations, activation_names, process_inner, inner_names, program_name, names as all_occurrences}
use Rattle.static_numbers.specs.Processes.{is_at, is_activated_by, users}
use Rattle.table_format.specs.declared.table.TaskLine.{TaskLine}
use Rattle.table_format.specs.declared.table.TaskTable.{TaskTable}
use Rattle.table_format.specs.Rules as of_table
use Rattle.table_format.specs.Rules.{IsBegun}
use Rattle.table_format.specs.Spending.{Nowhere, of_x}
use Rattle.table_format.specs.Program.{made_tail, table_monitor, activation_of, table_process, event_of, program_with}
use Rattle.table_law.proofs.Lists.{Every}
use Rattle.table_law.proofs.Shapes.{IsProcessOf, IsDeclOf, an_event, a_monitor, a_process}
use Rattle.table_law.proofs.Firsts.{Elem}
use Rattle.table_law.proofs.Processes.{known, decl_known, not_x, event_named}

-- how many of these places are this one
abbrev pub count : Place → List Place → ℕ
count q [] = 0
count q (p ∷ ps) = cond (same_place p q) 1 0 + count q ps

itself : (p : Place) → same_place p p ≡ true
itself p = ap (λ b. b && nat_eq p.col p.col) (eq-eqb p.line p.line refl) ∙ eq-eqb p.col p.col refl

pub some_counted : (q : Place) (ps : List Place) → Elem q ps → 1 ≤ count q ps
some_counted q [] e = absurd e
some_counted q (p ∷ ps) (inl is) = omega (arith, ap {B = ℕ} (λ b. cond b 1 0) (ap (λ z. same_place z q) (sym is) ∙ itself q))
some_counted q (p ∷ ps) (inr e) = omega (arith, some_counted q ps e)

-- ---- all but constants are known

others_all : (tail : Name) (t : TaskTable) (ds : List (Decl Place)) → Every (IsDeclOf tail t) ds → others ds ≡ map decl_name ds
others_all tail t [] are = refl
others_all tail t (d ∷ ds) are = one d are.0 (others_all tail t ds are.1)
  where
    one : (d : Decl Place) → IsDeclOf tail t d → others ds ≡ map decl_name ds → others (d ∷ ds) ≡ map decl_name (d ∷ ds)
    one d (an_event name place) rest = ap (λ (ns : Names). decl_name (event name place) ∷ ns) rest
    one d (a_monitor name m is) rest = ap (λ (ns : Names). decl_name (monitor m) ∷ ns) rest
    one d (a_process line p is) rest = ap (λ (ns : Names). decl_name (process p) ∷ ns) rest

map_both : {A B : Type 0} (f : A → B) (xs ys : List A) → map f (xs ++ ys) ≡ map f xs ++ map f ys
map_both f [] ys = refl
map_both f (x ∷ xs) ys = ap (λ (zs : List _). f x ∷ zs) (map_both f xs ys)

right_of : {A : Type 0} (P : A → Type 0) (xs ys : List A) → Every P (xs ++ ys) → Every P ys
right_of P [] ys all = all
right_of P (x ∷ xs) ys all = right_of P xs ys all.1

module _ (t : TaskTable) (begun : IsBegun t) (g : Prog Place) (like : bare g ≡ program_with (made_tail t) t) (are : Every (IsDeclOf (made_tail t) t) g.decls) where
  abbrev tail : Name
  tail = made_tail t

  -- what is known at a declaration is what is known in the whole
  site_known : (before : List (Decl Place)) (p : Process Place) (after : List (Decl Place)) → g.decls ≡ before ++ process p ∷ after
      → (program_name g ∷ map decl_name before) ++ others (process p ∷ after) ≡ known t begun g like are
  site_known before p after split =
      let all = subst (λ ds. Every (IsDeclOf tail t) ds) split are in
      let later = others_all tail t (process p ∷ after) (right_of (IsDeclOf tail t) before (process p ∷ after) all) in
      let whole = others_all tail t g.decls are in
      ap (λ (ns : Names). (program_name g ∷ map decl_name before) ++ ns) later
      ∙ ap (λ (ns : Names). program_name g ∷ ns) (sym (map_both decl_name before (process p ∷ after)) ∙ ap (λ ds. map decl_name ds) (sym split) ∙ sym whole)

  module _ (lists : (before : List (Decl Place)) (p : Process Place) (after : List (Decl Place)) → g.decls ≡ before ++ process p ∷ after → (o : Occurrence)
      → Contains (inner_names (record { means = first ((program_name g ∷ map decl_name before) ++ others (process p ∷ after)); members = λ place. first (entries_at g.decls place) }) (process p) []) o
      → Contains (all_occurrences g) o)
      (finds : (name : Name) (place : Place) (want : NameUse) (d : Declared) → Contains (all_occurrences g) (used name place want (Some d)) → declared_at (all_occurrences g) place ≡ Some d.place) where
    -- the event of a process is found at its declaration
    pub event_declared : (before : List (Decl Place)) (p : Process Place) (after : List (Decl Place)) → g.decls ≡ before ++ process p ∷ after
        → (line : TaskLine) → Elem line t.tasks → IsProcessOf tail line p → (e : Name) (q at : Place) (frame : Constant Place) (deadline : Option (Constant Place))
        → line.event ≡ Some e → p.activation ≡ at_event e q frame deadline → Elem (event e at) g.decls → declared_at (all_occurrences g) q ≡ Some at
    event_declared before p after split line listed is e q at frame deadline has activation there =
        let v : Declared = record { place = is.x.one.place; kind = kind_is.Variable } in
        let d : Declared = record { place = at; kind = kind_is.Event } in
        let scope : Names = (of_x tail, v) ∷ [] in
        let called = is.x.called in
        let scope_is : process_scope p ≡ scope = (λ i. map var_name (is.x.is i) ++ map routine_name (is.routines i)) ∙ (λ i. (called i, v) ∷ []) in
        let site : Names → Site = λ ns. record { means = first ns; members = λ place. first (entries_at g.decls place) } in
        let ns = (program_name g ∷ map decl_name before) ++ others (process p ∷ after) in
        let means : (inside scope (site ns)).means e ≡ Some d =
        ap (λ b. or_else (if b then Some v else None) (first ns e)) (not_x t begun g like are e (event_named t begun g like are line listed e has))
        ∙ ap (λ ks. first ks e) (site_known before p after split) ∙ decl_known t begun g like are (event e at) there in
        let here : Site = inside scope (site ns) in
        let others_there = vars_names here p.vars (routines_names here p.routines (stmts_names here p.body (optional_names (handler_names here) p.handler (closes p.close p.close_place p.name ∷ [])))) in
        let in_scope : Contains (declarations (first ns) [] scope (process_inner (inside scope (site ns)) p [])) (used e q want_is.Event (Some d)) =
        subst (λ a. Contains (declarations (first ns) [] scope (activation_names here a others_there)) (used e q want_is.Event (Some d))) (sym activation)
        (1, omega arith, ap (λ o. used e q want_is.Event o) means) in
        let in_process : Contains (inner_names (site ns) (process p) []) (used e q want_is.Event (Some d)) =
        subst (λ (ds : Names). Contains (declarations (first ns) [] ds (process_inner (inside ds (site ns)) p [])) (used e q want_is.Event (Some d))) (sym scope_is) in_scope in
        finds e q want_is.Event d (lists before p after split (used e q want_is.Event (Some d)) in_process)
