-- The equations of `placed_expr`, one for each form of the code's expressions.
use Rattle.std.proofs.Common.{◌≡◌, ℕ, true, false, List, Box, Global, rules}
use Rattle.syntax_tree.specs.Plain.{Name}
use Rattle.syntax_tree.specs.Placed.{placed_expr, placed_exprs, placed_operands, literal, truth, variable, element, call, minus, negation, paren, row}
use Rattle.syntax_tree.specs.declared.place.Place.{Place}
use Rattle.syntax_tree.specs.declared.expr.Op.{Op}
use Rattle.syntax_tree.specs.declared.expr.Expr.{Expr, the_lemmas}
use Rattle.syntax_tree.specs.declared.expr.Expr.TheVariants as v

pub expr-Literal : (p : Place) (n : ℕ) → placed_expr (v.Literal p n) ≡ literal p n
expr-Literal p n = search (rules, the_lemmas)

pub expr-True : (p : Place) → placed_expr (v.True p) ≡ truth p true
expr-True p = search (rules, the_lemmas)

pub expr-False : (p : Place) → placed_expr (v.False p) ≡ truth p false
expr-False p = search (rules, the_lemmas)

pub expr-Variable : (p : Place) (n : Name) → placed_expr (v.Variable p n) ≡ variable p n
expr-Variable p n = search (rules, the_lemmas)

pub expr-Element : (p : Place) (n : Name) (i : Box Expr Global) → placed_expr (v.Element p n i) ≡ element p n (placed_expr i.value)
expr-Element p n i = search (rules, the_lemmas)

pub expr-Call : (p : Place) (n : Name) (es : List Expr) → placed_expr (v.Call p n es) ≡ call p n (placed_exprs es)
expr-Call p n es = search (rules, the_lemmas)

pub expr-Minus : (p : Place) (e : Box Expr Global) → placed_expr (v.Minus p e) ≡ minus p (placed_expr e.value)
expr-Minus p e = search (rules, the_lemmas)

pub expr-Not : (p : Place) (e : Box Expr Global) → placed_expr (v.Not p e) ≡ negation p (placed_expr e.value)
expr-Not p e = search (rules, the_lemmas)

pub expr-Paren : (p : Place) (e : Box Expr Global) → placed_expr (v.Paren p e) ≡ paren p (placed_expr e.value)
expr-Paren p e = search (rules, the_lemmas)

pub expr-Chain : (e : Box Expr Global) (rs : List (Op × Expr)) → placed_expr (v.Chain e rs) ≡ row (placed_expr e.value) (placed_operands rs)
expr-Chain e rs = search (rules, the_lemmas)
