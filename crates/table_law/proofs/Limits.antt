-- Frames, deadlines and first activations of a table's program are within their limits, and nothing
-- has bounds or a handler.
use Rattle.std.proofs.Common.{◌≡◌, ◌≤◌, ◌<◌, ◌+◌, ℕ, zero, suc, ◌⊎◌, inl, inr, Bool, true, false, ◌&&◌, nat_le, List, [], ◌∷◌, ◌++◌, Option, Some, None, pos, length, refl, ap, sym, ◌∙◌, subst, le-leb, arith}
use Rattle.std.specs.Prelude.{int_le, option_map, if◌then◌else◌}
use Rattle.syntax_tree.specs.Plain.{Name}
use Rattle.syntax_tree.specs.declared.place.Place.{Place}
use Rattle.syntax_tree.specs.Placed.{Constant, Kind, Var, Param, scalar, int, Routine, Process, Activation, periodic, at_event, Decl, Prog, optional}
use Rattle.syntax_tree.specs.Bare.{bare_constant, bare_activation}
use Rattle.syntax_tree.specs.Parts.{processes}
use Rattle.static_rule.specs.Parts.{FailsAmong}
use Rattle.static_declarations.specs.Values.{value, constant_place, is_within}
use Rattle.static_numbers.specs.Types.{Bounds, kind_bounds, vars_bounds, params_bounds, result_bounds, routines_bounds, members_bounds, decls_bounds}
use Rattle.static_numbers.specs.Processes.{frame_of, deadline_of, bad_limit, bad_start, all_handled, handler_numbers}
use Rattle.static_numbers.specs.Rules.{bounds_rules, process_rules, handler_rules}
use Rattle.table_format.specs.declared.table.TaskLine.{TaskLine}
use Rattle.table_format.specs.declared.table.TaskTable.{TaskTable}
use Rattle.table_format.specs.Spending.{of_number, of_x}
use Rattle.table_format.specs.Program.{activation_of}
use Rattle.table_law.proofs.Lists.{Every}
use Rattle.table_law.proofs.Fits.{OptionFits, LineFits}
use Rattle.table_law.proofs.Shapes.{OneInt, IsSomeEntry, IsProcessOf, IsDeclOf, an_event, a_monitor, a_process}
use Rattle.table_law.proofs.Statements.{NoneOf, none_among, is_worth}

-- ---- bounds

var_bounds : (name : Name) (vs : List (Var Place)) → OneInt name vs → (more : List Bounds) → vars_bounds vs more ≡ more
var_bounds name vs x more = ap (λ (us : List (Var Place)). vars_bounds us more) x.is ∙ ap (λ (k : Kind Place). kind_bounds k more) x.whole

entries_bounds : (tail : Name) (rs : List (Routine Place)) → Every (IsSomeEntry tail) rs → (more : List Bounds) → routines_bounds rs more ≡ more
entries_bounds tail [] are more = refl
entries_bounds tail (r ∷ rs) are more =
    let rest = routines_bounds rs more in
    ap (λ (ps : List (Param Place)). params_bounds ps (result_bounds r.result (vars_bounds r.vars rest))) are.0.is.params
    ∙ ap (λ o. result_bounds o (vars_bounds r.vars rest)) are.0.is.result
    ∙ var_bounds (of_x tail) r.vars are.0.is.x rest ∙ entries_bounds tail rs are.1 more

module _ (tail : Name) (t : TaskTable) where
  no_bounds : (ds : List (Decl Place)) → Every (IsDeclOf tail t) ds → decls_bounds ds [] ≡ []
  no_bounds [] are = refl
  no_bounds (d ∷ ds) are = one d are.0 (decls_bounds ds []) ∙ no_bounds ds are.1
    where
      one : (d : Decl Place) → IsDeclOf tail t d → (more : List Bounds) → decls_bounds (d ∷ []) more ≡ more
      one d (an_event name place) more = refl
      one d (a_monitor name m is) more = ap (λ ms. members_bounds ms (routines_bounds m.entries more)) is.members ∙ entries_bounds tail m.entries is.entries more
      one d (a_process line p is) more = var_bounds (of_x tail) p.vars is.x (routines_bounds p.routines more) ∙ ap (λ rs. routines_bounds rs more) is.routines

  -- ---- handlers

  none_handled : (ds : List (Decl Place)) → Every (IsDeclOf tail t) ds → all_handled (processes ds) ≡ []
  none_handled [] are = refl
  none_handled (d ∷ ds) are = one d are.0 (none_handled ds are.1)
    where
      one : (d : Decl Place) → IsDeclOf tail t d → all_handled (processes ds) ≡ [] → all_handled (processes (d ∷ ds)) ≡ []
      one d (an_event name place) rest = rest
      one d (a_monitor name m is) rest = rest
      one d (a_process line p is) rest = ap (λ h. handler_numbers h (all_handled (processes ds))) is.handler ∙ rest

-- ---- processes

within : (g : Prog Place) (c : Constant Place) (n low high : ℕ) → bare_constant c ≡ of_number n → low ≤ n → n ≤ high → is_within low high (value g c) ≡ true
within g c n low high same above below =
    let worth = is_worth g c n same in
    let one : nat_le low n ≡ true = le-leb low n above in
    let two : nat_le n high ≡ true = le-leb n high below in
    ap (λ z. is_within low high z) worth ∙ ap (λ b. b && nat_le n high) one ∙ two

record Framed (g : Prog Place) (frame : Constant Place) (n : ℕ) : Type 0 where
  same : bare_constant frame ≡ of_number n
  some : 10 ≤ n
  few : n ≤ 1000000000

limited : (g : Prog Place) (frame : Constant Place) (n : ℕ) → Framed g frame n → (o : Option (Constant Place)) (d : Option ℕ)
    → optional bare_constant o ≡ option_map of_number d → OptionFits 10 n d → bad_limit (value g) frame o ≡ None
limited g frame n is None d same fits = refl
limited g frame n is (Some c) None same fits = absurd cc
limited g frame n is (Some c) (Some k) same fits =
    let like : bare_constant c ≡ of_number k = cc in
    let frame_worth = is_worth g frame n is.same in
    let worth = is_worth g c k like in
    let one : nat_le 10 k ≡ true = le-leb 10 k fits.0 in
    let two : nat_le k n ≡ true = le-leb k n fits.1 in
    let o : Option Place = None in
    (λ i. if int_le (pos 10) (worth i) && int_le (worth i) (frame_worth i) then o else Some (constant_place c))
    ∙ (λ i. if one i && two i then o else Some (constant_place c))

started : (g : Prog Place) (frame : Constant Place) (deadline : Option (Constant Place)) (o : Option (Constant Place)) (d : Option ℕ)
    → optional bare_constant o ≡ option_map of_number d → OptionFits 0 1000000000 d → bad_start (value g) (periodic frame deadline o) ≡ None
started g frame deadline None d same fits = refl
started g frame deadline (Some c) None same fits = absurd cc
started g frame deadline (Some c) (Some k) same fits =
    let like : bare_constant c ≡ of_number k = cc in
    let o : Option Place = None in
    ap (λ b. if b then o else Some (constant_place c)) (within g c k 0 1000000000 like fits.0 fits.1)

record IsActivated (g : Prog Place) (a : Activation Place) : Type 0 where
  frame : is_within 10 1000000000 (value g (frame_of a)) ≡ true
  deadline : bad_limit (value g) (frame_of a) (deadline_of a) ≡ None
  first : bad_start (value g) a ≡ None

activated : (g : Prog Place) (line : TaskLine) → LineFits line → (o : Option Name) (a : Activation Place) → bare_activation a ≡ activation_of line o → IsActivated g a
activated g line fits None (periodic frame deadline start) same =
    let framed : Framed g frame line.frame = record { same = cc; some = fits.frame_some; few = fits.frame_few } in
    let deadlines : optional bare_constant deadline ≡ option_map of_number line.deadline = cc in
    let starts : optional bare_constant start ≡ option_map of_number line.first = cc in
    record {
      frame = within g frame line.frame 10 1000000000 framed.same fits.frame_some fits.frame_few;
      deadline = limited g frame line.frame framed deadline line.deadline deadlines fits.deadline;
      first = started g frame deadline start line.first starts fits.first;
    }
activated g line fits None (at_event name q frame deadline) same = absurd cc
activated g line fits (Some e) (periodic frame deadline start) same = absurd cc
activated g line fits (Some e) (at_event name q frame deadline) same =
    let framed : Framed g frame line.frame = record { same = cc; some = fits.frame_some; few = fits.frame_few } in
    let deadlines : optional bare_constant deadline ≡ option_map of_number line.deadline = cc in
    record {
      frame = within g frame line.frame 10 1000000000 framed.same fits.frame_some fits.frame_few;
      deadline = limited g frame line.frame framed deadline line.deadline deadlines fits.deadline;
      first = refl;
    }

module _ (tail : Name) (t : TaskTable) (g : Prog Place) where
  processes_fine : (ds : List (Decl Place)) → Every (IsDeclOf tail t) ds → Every (NoneOf (process_rules g)) (processes ds)
  processes_fine [] are = tt
  processes_fine (d ∷ ds) are = one d are.0 (processes_fine ds are.1)
    where
      one : (d : Decl Place) → IsDeclOf tail t d → Every (NoneOf (process_rules g)) (processes ds) → Every (NoneOf (process_rules g)) (processes (d ∷ ds))
      one d (an_event name place) rest = rest
      one d (a_monitor name m is) rest = rest
      one d (a_process line p is) rest =
          let it = activated g line is.fits line.event p.activation (ap (λ x. x.activation) is.like) in
          let o : Option Place = None in
          ((ap (λ b. if b then o else Some (constant_place (frame_of p.activation))) it.frame, (it.deadline, (it.first, tt))), rest)

  module _ (are : Every (IsDeclOf tail t) g.decls) where
    pub bounds_kept : (number : ℕ) (place : Place) → ¬ FailsAmong (bounds_rules g) (decls_bounds g.decls []) number place
    bounds_kept number place fails = subst (λ bs. FailsAmong (bounds_rules g) bs number place) (no_bounds tail t g.decls are) fails

    pub processes_kept : (number : ℕ) (place : Place) → ¬ FailsAmong (process_rules g) (processes g.decls) number place
    processes_kept number place fails = none_among (process_rules g) (processes g.decls) (processes_fine g.decls are) number place fails

    pub handlers_kept : (number : ℕ) (place : Place) → ¬ FailsAmong (handler_rules g) (all_handled (processes g.decls)) number place
    handlers_kept number place fails = subst (λ hs. FailsAmong (handler_rules g) hs number place) (none_handled tail t g.decls are) fails
