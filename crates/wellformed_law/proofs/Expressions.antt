-- Expressions: where the rules hold of an expression it has a sort, and it is well formed where it stands.
use Rattle.std.proofs.Common.{◌≡◌, true, false, ◌&&◌, List, [], ◌∷◌, Option, Some, refl, ap, sym, ◌∙◌, subst}
use Rattle.std.specs.Prelude.{map}
use Rattle.std.proofs.lemmas.Bool.{or_parts, and_parts}
use Rattle.syntax_tree.specs.Placed.{Constant, literal_constant, named_constant, Param, Expr, literal, truth, variable, element, call, minus, negation, paren, row, Exprs, no_exprs, exprs, Operands, no_operands, operand, Ref, whole, part, Process, Prog, plain_param, plain_expr, plain_exprs, plain_operands}
use Rattle.syntax_tree.specs.declared.place.Place.{Place}
use Rattle.static_names.specs.Reach.{Site}
use Rattle.static_names.specs.declared.kind.NameUse.TheVariants as want_is
use Rattle.static_names.specs.Occurrences.{Occurrence, uses, constant_names, expr_names, exprs_names, operands_names, ref_names}
use Rattle.static_declarations.specs.declared.sort.Sort.{Sort}
use Rattle.static_declarations.specs.declared.sort.Sort.TheVariants as sort_is
use Rattle.static_declarations.specs.Things as thing
use Rattle.static_declarations.specs.Things.{named_at}
use Rattle.static_declarations.specs.Sorts.{fits, same_sort, gives, takes}
use Rattle.static_types.specs.Sorts.{is_array, row_sort, sort, asked, agrees, operands_agree, call_agrees}
use Rattle.static_types.specs.Types.{is_of}
use Rattle.static_types.specs.Conduct.{is_barred, strays, exprs_stray, operands_stray}
use Rattle.static_semantics.specs.Here.{Here, meant}
use Rattle.static_semantics.specs.Typed.{params_of, IsOf, IsRow, AreArguments}
use Rattle.static_semantics.specs.Written.{ExprWritten, ExprsWritten, OperandsWritten}
use Rattle.static_semantics.specs.Mirrors.{Mirrors}
use Rattle.static_semantics.specs.Judged.{IsKept, AreNames}
use Rattle.wellformed_law.proofs.Uses.{sorts_same, more_names, word_of, element_of, answer_of, value_use, routine_use}

-- ---- the names behind those of a part

module _ (g : Prog Place) (site : Site) where
  pub constant_rest : (k : Constant Place) (more : List Occurrence) → AreNames g (constant_names site k more) → AreNames g more
  constant_rest (literal_constant p is_minus n q) more are = are
  constant_rest (named_constant p is_minus name q) more are = more_names g (uses site name q want_is.Constant) more are

  mutual
    pub expr_rest : (e : Expr Place) (more : List Occurrence) → AreNames g (expr_names site e more) → AreNames g more
    expr_rest (literal p n) more are = are
    expr_rest (truth p b) more are = are
    expr_rest (variable p x) more are = more_names g (uses site x p want_is.Value) more are
    expr_rest (element p x i) more are = expr_rest i more (more_names g (uses site x p want_is.Value) (expr_names site i more) are)
    expr_rest (call p x es) more are = exprs_rest es more (more_names g (uses site x p want_is.Routine) (exprs_names site es more) are)
    expr_rest (minus p e) more are = expr_rest e more are
    expr_rest (negation p e) more are = expr_rest e more are
    expr_rest (paren p e) more are = expr_rest e more are
    expr_rest (row e rs) more are = operands_rest rs more (expr_rest e (operands_names site rs more) are)

    pub exprs_rest : (es : Exprs Place) (more : List Occurrence) → AreNames g (exprs_names site es more) → AreNames g more
    exprs_rest no_exprs more are = are
    exprs_rest (exprs e es) more are = exprs_rest es more (expr_rest e (exprs_names site es more) are)

    pub operands_rest : (rs : Operands Place) (more : List Occurrence) → AreNames g (operands_names site rs more) → AreNames g more
    operands_rest no_operands more are = are
    operands_rest (operand op e rs) more are = operands_rest rs more (expr_rest e (operands_names site rs more) are)

  pub ref_rest : (r : Ref Place) (more : List Occurrence) → AreNames g (ref_names site r more) → AreNames g more
  ref_rest (whole p x) more are = more_names g (uses site x p want_is.Target) more are
  ref_rest (part p x i) more are = expr_rest i more (more_names g (uses site x p want_is.Target) (expr_names site i more) are)

-- ---- sorts

pub same_sort_is : (s t : Sort) → same_sort s t ≡ true → s ≡ t
same_sort_is sort_is.Number sort_is.Number e = refl
same_sort_is sort_is.Truth sort_is.Truth e = refl
same_sort_is sort_is.Number sort_is.Truth e = cc
same_sort_is sort_is.Truth sort_is.Number e = cc

-- what has a sort and fits has the sort that is asked for
pub fits_is : (want : Sort) (o : Option Sort) (s : Sort) → o ≡ Some s → fits want o ≡ true → want ≡ s
fits_is want o s is h = same_sort_is want s (sym (ap (fits want) is) ∙ h)

-- an expression that has a sort, by its form and in the meaning
abbrev HasSort : Prog Place → Here → Expr Place → Type 0
HasSort g c e = (s : Sort) × (sort (named_at g) e ≡ Some s) × IsOf c s (plain_expr e)

of_want : (g : Prog Place) (c : Here) (want : Sort) (e : Expr Place) → HasSort g c e → fits want (sort (named_at g) e) ≡ true → IsOf c want (plain_expr e)
of_want g c want e h f = subst (λ s. IsOf c s (plain_expr e)) (sym (fits_is want (sort (named_at g) e) h.0 h.1 f)) h.2

-- ---- expressions

mutual
  pub expr_fits : (g : Prog Place) (p : Process Place) (at : Option Place) (site : Site) (c : Here) (e : Expr Place) (more : List Occurrence) → IsKept g → Mirrors g p at site c
      → ExprWritten e → AreNames g (expr_names site e more) → agrees (named_at g) e ≡ true → strays (named_at g) e ≡ false
      → (s : Sort) × (sort (named_at g) e ≡ Some s) × IsOf c s (plain_expr e)
  expr_fits g p at site c (literal q n) more kept mirrors written are agree stray = (sort_is.Number, refl, (refl, written))
  expr_fits g p at site c (truth q b) more kept mirrors written are agree stray = (sort_is.Truth, refl, refl)
  expr_fits g p at site c (variable q x) more kept mirrors written are agree stray =
      word_of (named_at g q) (meant c x) (value_use g p at site c x q more kept mirrors are) agree
  expr_fits g p at site c (element q x i) more kept mirrors written are agree stray =
      let h = and_parts (is_array (named_at g q)) (agrees (named_at g) i && fits sort_is.Number (sort (named_at g) i)) agree in
      let k = and_parts (agrees (named_at g) i) (fits sort_is.Number (sort (named_at g) i)) h.1 in
      let w = element_of (named_at g q) (meant c x) (value_use g p at site c x q (expr_names site i more) kept mirrors are) h.0 in
      let inner = more_names g (uses site x q want_is.Value) (expr_names site i more) are in
      let index = expr_fits g p at site c i more kept mirrors written inner k.0 stray in
      (w.0, w.1, (w.2, of_want g c sort_is.Number i index k.1))
  expr_fits g p at site c (call q x es) more kept mirrors written are agree stray =
      let h = or_parts (is_barred (named_at g q)) (exprs_stray (named_at g) es) stray in
      let r = routine_use g p at site c x q (exprs_names site es more) kept mirrors are h.0 in
      let a = answer_of g c (named_at g q) x r h.0 in
      let inner = more_names g (uses site x q want_is.Routine) (exprs_names site es more) are in
      let called = subst (λ o. call_agrees (named_at g) (asked o) es ≡ true) r.thing agree in
      let arguments = args_fit g p at site c r.one.params es more kept mirrors written inner called h.1 in
      (a.0, a.1, (a.2, subst (λ o. AreArguments c (params_of o) (plain_exprs es)) (sym r.found) arguments))
  expr_fits g p at site c (minus q e) more kept mirrors written are agree stray =
      let h = and_parts (agrees (named_at g) e) (fits sort_is.Number (sort (named_at g) e)) agree in
      let inner = expr_fits g p at site c e more kept mirrors written are h.0 stray in
      (sort_is.Number, refl, (refl, of_want g c sort_is.Number e inner h.1))
  expr_fits g p at site c (negation q e) more kept mirrors written are agree stray =
      let h = and_parts (agrees (named_at g) e) (fits sort_is.Truth (sort (named_at g) e)) agree in
      let inner = expr_fits g p at site c e more kept mirrors written are h.0 stray in
      (sort_is.Truth, refl, (refl, of_want g c sort_is.Truth e inner h.1))
  expr_fits g p at site c (paren q e) more kept mirrors written are agree stray = expr_fits g p at site c e more kept mirrors written are agree stray
  expr_fits g p at site c (row e rs) more kept mirrors written are agree stray =
      let h = and_parts (agrees (named_at g) e) (operands_agree (named_at g) (sort (named_at g) e) rs) agree in
      let k = or_parts (strays (named_at g) e) (operands_stray (named_at g) rs) stray in
      let left = expr_fits g p at site c e (operands_names site rs more) kept mirrors written.0 are h.0 k.0 in
      let behind = expr_rest g site e (operands_names site rs more) are in
      let agree_behind = subst (λ o. operands_agree (named_at g) o rs ≡ true) left.1 h.1 in
      let right = row_fits g p at site c left.0 rs more kept mirrors written.1 behind agree_behind k.1 in
      (right.0, ap (λ o. row_sort o rs) left.1 ∙ right.1, (left.0, left.2, right.2))

  pub row_fits : (g : Prog Place) (p : Process Place) (at : Option Place) (site : Site) (c : Here) (t : Sort) (rs : Operands Place) (more : List Occurrence) → IsKept g → Mirrors g p at site c
      → OperandsWritten rs → AreNames g (operands_names site rs more) → operands_agree (named_at g) (Some t) rs ≡ true → operands_stray (named_at g) rs ≡ false
      → (s : Sort) × (row_sort (Some t) rs ≡ Some s) × IsRow c t s (plain_operands rs)
  row_fits g p at site c t no_operands more kept mirrors written are agree stray = (t, refl, refl)
  row_fits g p at site c t (operand op e rs) more kept mirrors written are agree stray =
      let h = and_parts (agrees (named_at g) e) (takes op (Some t) (sort (named_at g) e) && operands_agree (named_at g) (Some (gives op)) rs) agree in
      let m = and_parts (takes op (Some t) (sort (named_at g) e)) (operands_agree (named_at g) (Some (gives op)) rs) h.1 in
      let k = or_parts (strays (named_at g) e) (operands_stray (named_at g) rs) stray in
      let one = expr_fits g p at site c e (operands_names site rs more) kept mirrors written.0 are h.0 k.0 in
      let behind = expr_rest g site e (operands_names site rs more) are in
      let others = row_fits g p at site c (gives op) rs more kept mirrors written.1 behind m.1 k.1 in
      (others.0, others.1, (one.0, one.2, subst (λ o. takes op (Some t) o ≡ true) one.1 m.0, others.2))

  pub args_fit : (g : Prog Place) (p : Process Place) (at : Option Place) (site : Site) (c : Here) (vs : List (Param Place)) (es : Exprs Place) (more : List Occurrence) → IsKept g → Mirrors g p at site c
      → ExprsWritten es → AreNames g (exprs_names site es more) → call_agrees (named_at g) (Some vs) es ≡ true → exprs_stray (named_at g) es ≡ false
      → AreArguments c (Some (map plain_param vs)) (plain_exprs es)
  args_fit g p at site c [] no_exprs more kept mirrors written are agree stray = tt
  args_fit g p at site c [] (exprs e es) more kept mirrors written are agree stray = cc
  args_fit g p at site c (v ∷ vs) no_exprs more kept mirrors written are agree stray = cc
  args_fit g p at site c (v ∷ vs) (exprs e es) more kept mirrors written are agree stray =
      let h = and_parts (agrees (named_at g) e) (fits (thing.sort_of v.kind) (sort (named_at g) e) && call_agrees (named_at g) (Some vs) es) agree in
      let m = and_parts (fits (thing.sort_of v.kind) (sort (named_at g) e)) (call_agrees (named_at g) (Some vs) es) h.1 in
      let k = or_parts (strays (named_at g) e) (exprs_stray (named_at g) es) stray in
      let one = expr_fits g p at site c e (exprs_names site es more) kept mirrors written.0 are h.0 k.0 in
      let behind = expr_rest g site e (exprs_names site es more) are in
      let others = args_fit g p at site c vs es more kept mirrors written.1 behind m.1 k.1 in
      (subst (λ s. IsOf c s (plain_expr e)) (sorts_same v.kind) (of_want g c (thing.sort_of v.kind) e one m.0), others)

pub is_of_fits : (g : Prog Place) (p : Process Place) (at : Option Place) (site : Site) (c : Here) (s : Sort) (e : Expr Place) (more : List Occurrence) → IsKept g → Mirrors g p at site c
    → ExprWritten e → AreNames g (expr_names site e more) → is_of (named_at g) s e ≡ true → strays (named_at g) e ≡ false
    → IsOf c s (plain_expr e)
is_of_fits g p at site c s e more kept mirrors written are agree stray =
    let h = and_parts (agrees (named_at g) e) (fits s (sort (named_at g) e)) agree in
    of_want g c s e (expr_fits g p at site c e more kept mirrors written are h.0 stray) h.1
