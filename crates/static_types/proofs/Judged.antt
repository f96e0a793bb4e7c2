-- What expressions and rows are judged as.
use Rattle.std.proofs.Common.{◌≡◌, Bool, true, false, ◌&&◌, Option, Some, None, cond, List, ◌∷◌, refl, ap, ◌∙◌}
use Rattle.syntax_tree.specs.Placed.{Param, Expr, Exprs, exprs, Operands, row}
use Rattle.std.proofs.lemmas.Option.{cond_some}
use Rattle.syntax_tree.specs.declared.place.Place.{Place}
use Rattle.static_declarations.specs.declared.sort.Sort.{Sort}
use Rattle.static_declarations.specs.Things.{sort_of}
use Rattle.static_types.specs.Types.{is_of}
use Rattle.static_declarations.specs.Sorts.{fits}
use Rattle.static_types.specs.Sorts.{Named, sort, row_sort, agrees, call_agrees, operands_agree, judged, row_judged}

-- a row whose first operand has the sort t
pub row-from : (named : Named) (t : Option Sort) (e : Expr Place) (rs : Operands Place) → judged named e ≡ Some t → judged named (row e rs) ≡ row_judged named t rs
row-from named t e rs is =
    let both = cond_some (agrees named e) (sort named e) t is in
    ap (λ b. cond (b && operands_agree named (sort named e) rs) (Some (row_sort (sort named e) rs)) None) both.0
    ∙ ap (λ u. cond (operands_agree named u rs) (Some (row_sort u rs)) None) both.1

both-true : (a b c : Bool) → (a && b) ≡ true → (a && (b && c)) ≡ c
both-true true true c is = refl
both-true true false c is = cc
both-true false b c is = cc

-- an argument that has its parameter's sort
pub args_go : (named : Named) (v : Param Place) (vs : List (Param Place)) (e : Expr Place) (es : Exprs Place) → is_of named (sort_of v.kind) e ≡ true
    → call_agrees named (Some (v ∷ vs)) (exprs e es) ≡ call_agrees named (Some vs) es
args_go named v vs e es is = both-true (agrees named e) (fits (sort_of v.kind) (sort named e)) (call_agrees named (Some vs) es) is
