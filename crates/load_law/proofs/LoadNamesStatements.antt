-- Statements whose names are right where so much is known, and that none of their names is refused.
use Rattle.std.proofs.Common.{◌≡◌, Bool, true, false, ◌&&◌, List, [], ◌∷◌, Option, Some, None, refl, ap, ◌∙◌}
use Rattle.std.specs.Prelude.{is_some, not}
use Rattle.std.proofs.lemmas.Bool.{and_parts}
use Rattle.syntax_tree.specs.Plain.{Name}
use Rattle.syntax_tree.specs.declared.place.Place.{Place}
use Rattle.syntax_tree.specs.Placed.{Constant, literal_constant, named_constant, Expr, literal, variable, row, Exprs, no_exprs, exprs, Operands, no_operands, operand, Ref, whole, part, Stmt, assign, perform_entry, loop, get, put, wait, signal, Stmts, no_stmts, stmts}
use Rattle.syntax_tree.specs.Bare.{bare_constant, bare_expr, bare_exprs, bare_operands, bare_ref, bare_stmt, bare_stmts}
use Rattle.static_names.specs.declared.kind.Declared.{Declared}
use Rattle.static_names.specs.declared.kind.Kind.{Kind}
use Rattle.static_names.specs.declared.kind.Kind.TheVariants as kind_is
use Rattle.static_names.specs.declared.kind.NameUse.{NameUse}
use Rattle.static_names.specs.declared.kind.NameUse.TheVariants as want_is
use Rattle.static_names.specs.Reach.{suits, Site, inside, through}
use Rattle.static_names.specs.Occurrences.{Occurrence, used, uses, constant_names, expr_names, exprs_names, operands_names, ref_names, entry_names, loop_name, stmt_names, stmts_names}
use Rattle.load_law.proofs.Knowing.{Fact, free, known_as, opens, Known, known, kind_of, is_entry, Holds, Agrees, enter}
use Rattle.load_law.proofs.Fine.{is_fine, Fine}

abbrev Bare : Type 0
Bare = Unit {0}

-- ---- what is right

abbrev use_right : NameUse → Option Fact → Bool
use_right want None = false
use_right want (Some free) = false
use_right want (Some (known_as k)) = suits want k
use_right want (Some opens) = false

abbrev opens_right : Option Fact → Bool
opens_right (Some opens) = true
opens_right _ = false

abbrev free_right : Option Fact → Bool
free_right (Some free) = true
free_right _ = false

abbrev pub constant_right : Constant Bare → Bool
constant_right (literal_constant p is_minus n q) = true
constant_right (named_constant p is_minus name q) = false

abbrev mutual
  expr_right : Known → Expr Bare → Bool
  expr_right es (literal p n) = true
  expr_right es (variable p name) = use_right want_is.Value (known es name)
  expr_right es (row e rs) = expr_right es e && operands_right es rs
  expr_right es _ = false

  operands_right : Known → Operands Bare → Bool
  operands_right es no_operands = true
  operands_right es (operand op e rs) = expr_right es e && operands_right es rs

abbrev exprs_right : Known → Exprs Bare → Bool
exprs_right es no_exprs = true
exprs_right es (exprs e more) = expr_right es e && exprs_right es more

abbrev ref_right : Known → Ref Bare → Bool
ref_right es (whole p name) = use_right want_is.Target (known es name)
ref_right es (part p name i) = false

abbrev mutual
  stmt_right : Known → Stmt Bare → Bool
  stmt_right es (assign r e) = ref_right es r && expr_right es e
  stmt_right es (perform_entry p mon entry q args) = opens_right (known es mon) && (is_entry entry && exprs_right es args)
  stmt_right es (loop p name q low high a) = free_right (known es name) && ((constant_right low && constant_right high) && stmts_right ((name, known_as kind_is.LoopVariable) ∷ es) a)
  stmt_right es (get p dev q r) = use_right want_is.Device (known es dev) && ref_right es r
  stmt_right es (put p dev q e) = use_right want_is.Device (known es dev) && expr_right es e
  stmt_right es (wait p cond q limit number) = use_right want_is.Condition (known es cond) && (constant_right limit && constant_right number)
  stmt_right es (signal p cond q) = use_right want_is.Condition (known es cond)
  stmt_right es _ = false

  pub stmts_right : Known → Stmts Bare → Bool
  stmts_right es no_stmts = true
  stmts_right es (stmts s ss) = stmt_right es s && stmts_right es ss

-- ---- none is refused

suits_so : (want : NameUse) (o : Option Declared) (k : Kind) (name : Name) (place : Place) → kind_of o ≡ Some k → suits want k ≡ true → is_fine (used name place want o) ≡ true
suits_so want None k name place is fits = absurd cc
suits_so want (Some d) k name place is fits = let kinds : d.kind ≡ k = cc in ap (suits want) kinds ∙ fits

use_fine : (es : Known) (here : Site) → Agrees es here → (name : Name) (place : Place) (want : NameUse) → use_right want (known es name) ≡ true → is_fine (uses here name place want) ≡ true
use_fine es here all name place want right = by (known es name) refl right
  where
    by : (o : Option Fact) → known es name ≡ o → use_right want o ≡ true → is_fine (uses here name place want) ≡ true
    by None is ok = absurd cc
    by (Some free) is ok = absurd cc
    by (Some (known_as k)) is ok = suits_so want (here.means name) k name place (all name (known_as k) is) ok
    by (Some opens) is ok = absurd cc

opens_so : (es : Known) (here : Site) → Agrees es here → (name : Name) → opens_right (known es name) ≡ true → Holds here name opens
opens_so es here all name right = by (known es name) refl right
  where
    by : (o : Option Fact) → known es name ≡ o → opens_right o ≡ true → Holds here name opens
    by None is ok = absurd cc
    by (Some free) is ok = absurd cc
    by (Some (known_as k)) is ok = absurd cc
    by (Some opens) is ok = all name opens is

free_so : (es : Known) (here : Site) → Agrees es here → (name : Name) → free_right (known es name) ≡ true → here.means name ≡ None
free_so es here all name right = by (known es name) refl right
  where
    by : (o : Option Fact) → known es name ≡ o → free_right o ≡ true → here.means name ≡ None
    by None is ok = absurd cc
    by (Some free) is ok = all name free is
    by (Some (known_as k)) is ok = absurd cc
    by (Some opens) is ok = absurd cc

pub constant_fine : (here : Site) (c : Constant Place) (more : List Occurrence) → constant_right (bare_constant c) ≡ true → Fine more → Fine (constant_names here c more)
constant_fine here (literal_constant p is_minus n q) more right fine = fine
constant_fine here (named_constant p is_minus name q) more right fine = absurd cc

mutual
  expr_fine : (es : Known) (here : Site) → Agrees es here → (e : Expr Place) (more : List Occurrence) → expr_right es (bare_expr e) ≡ true → Fine more → Fine (expr_names here e more)
  expr_fine es here all (literal p n) more right fine = fine
  expr_fine es here all (variable p name) more right fine = (use_fine es here all name p want_is.Value right, fine)
  expr_fine es here all (row e rs) more right fine =
      let both = and_parts (expr_right es (bare_expr e)) (operands_right es (bare_operands rs)) right in
      expr_fine es here all e (operands_names here rs more) both.0 (operands_fine es here all rs more both.1 fine)
  expr_fine es here all _ more right fine = absurd cc

  operands_fine : (es : Known) (here : Site) → Agrees es here → (rs : Operands Place) (more : List Occurrence) → operands_right es (bare_operands rs) ≡ true → Fine more → Fine (operands_names here rs more)
  operands_fine es here all no_operands more right fine = fine
  operands_fine es here all (operand op e rs) more right fine =
      let both = and_parts (expr_right es (bare_expr e)) (operands_right es (bare_operands rs)) right in
      expr_fine es here all e (operands_names here rs more) both.0 (operands_fine es here all rs more both.1 fine)

exprs_fine : (es : Known) (here : Site) → Agrees es here → (args : Exprs Place) (more : List Occurrence) → exprs_right es (bare_exprs args) ≡ true → Fine more → Fine (exprs_names here args more)
exprs_fine es here all no_exprs more right fine = fine
exprs_fine es here all (exprs e args) more right fine =
    let both = and_parts (expr_right es (bare_expr e)) (exprs_right es (bare_exprs args)) right in
    expr_fine es here all e (exprs_names here args more) both.0 (exprs_fine es here all args more both.1 fine)

ref_fine : (es : Known) (here : Site) → Agrees es here → (r : Ref Place) (more : List Occurrence) → ref_right es (bare_ref r) ≡ true → Fine more → Fine (ref_names here r more)
ref_fine es here all (whole p name) more right fine = (use_fine es here all name p want_is.Target right, fine)
ref_fine es here all (part p name i) more right fine = absurd cc

entry_fine : (es : Known) (here : Site) → Agrees es here → (mon : Name) (p : Place) (entry : Name) (q : Place) (more : List Occurrence) → opens_right (known es mon) ≡ true → is_entry entry ≡ true → Fine more
    → Fine (entry_names here mon p entry q more)
entry_fine es here all mon p entry q more known_mon known_entry fine =
    let it = opens_so es here all mon known_mon in (
      suits_so want_is.Monitor (here.means mon) kind_is.Monitor mon p it.0 refl,
      (suits_so want_is.Entry (through here mon entry) kind_is.Entry entry q (it.1 entry known_entry) refl, fine),
    )

mutual
  stmt_fine : (es : Known) (here : Site) → Agrees es here → (s : Stmt Place) (more : List Occurrence) → stmt_right es (bare_stmt s) ≡ true → Fine more → Fine (stmt_names here s more)
  stmt_fine es here all (assign r e) more right fine =
      let both = and_parts (ref_right es (bare_ref r)) (expr_right es (bare_expr e)) right in
      ref_fine es here all r (expr_names here e more) both.0 (expr_fine es here all e more both.1 fine)
  stmt_fine es here all (perform_entry p mon entry q args) more right fine =
      let one = and_parts (opens_right (known es mon)) (is_entry entry && exprs_right es (bare_exprs args)) right in
      let two = and_parts (is_entry entry) (exprs_right es (bare_exprs args)) one.1 in
      entry_fine es here all mon p entry q (exprs_names here args more) one.0 two.0 (exprs_fine es here all args more two.1 fine)
  stmt_fine es here all (loop p name q low high a) more right fine =
      let d = loop_name name q in
      let inner = (name, known_as kind_is.LoopVariable) ∷ es in
      let body = stmts_right inner (bare_stmts a) in
      let one = and_parts (free_right (known es name)) ((constant_right (bare_constant low) && constant_right (bare_constant high)) && body) right in
      let two = and_parts (constant_right (bare_constant low) && constant_right (bare_constant high)) body one.1 in
      let three = and_parts (constant_right (bare_constant low)) (constant_right (bare_constant high)) two.0 in
      let after = stmts_fine inner (inside (d ∷ []) here) (enter es d here all) a more two.1 fine in
      let bounds = constant_fine here low (constant_names here high (stmts_names (inside (d ∷ []) here) a more)) three.0
      (constant_fine here high (stmts_names (inside (d ∷ []) here) a more) three.1 after) in
      (ap (λ o. not (is_some o)) (free_so es here all name one.0), bounds)
  stmt_fine es here all (get p dev q r) more right fine =
      let both = and_parts (use_right want_is.Device (known es dev)) (ref_right es (bare_ref r)) right in
      (use_fine es here all dev q want_is.Device both.0, ref_fine es here all r more both.1 fine)
  stmt_fine es here all (put p dev q e) more right fine =
      let both = and_parts (use_right want_is.Device (known es dev)) (expr_right es (bare_expr e)) right in
      (use_fine es here all dev q want_is.Device both.0, expr_fine es here all e more both.1 fine)
  stmt_fine es here all (wait p cond q limit number) more right fine =
      let one = and_parts (use_right want_is.Condition (known es cond)) (constant_right (bare_constant limit) && constant_right (bare_constant number)) right in
      let two = and_parts (constant_right (bare_constant limit)) (constant_right (bare_constant number)) one.1 in
      (use_fine es here all cond q want_is.Condition one.0, constant_fine here limit (constant_names here number more) two.0 (constant_fine here number more two.1 fine))
  stmt_fine es here all (signal p cond q) more right fine = (use_fine es here all cond q want_is.Condition right, fine)
  stmt_fine es here all _ more right fine = absurd cc

  pub stmts_fine : (es : Known) (here : Site) → Agrees es here → (ss : Stmts Place) (more : List Occurrence) → stmts_right es (bare_stmts ss) ≡ true → Fine more → Fine (stmts_names here ss more)
  stmts_fine es here all no_stmts more right fine = fine
  stmts_fine es here all (stmts s ss) more right fine =
      let both = and_parts (stmt_right es (bare_stmt s)) (stmts_right es (bare_stmts ss)) right in
      stmt_fine es here all s (stmts_names here ss more) both.0 (stmts_fine es here all ss more both.1 fine)
