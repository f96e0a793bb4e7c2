-- The number of the arguments of a call, and one of them after another.
use Rattle.std.proofs.Common.{◌≡◌, ℕ, ◌+◌, ◌==◌, false, List, [], ◌∷◌, Option, Some, None, length, refl, sym, ap, ◌∙◌, arith, if◌then◌else◌}
use Rattle.std.proofs.lemmas.Bool.{eq-eqb}
use Rattle.std.proofs.lemmas.Bool.Decides.{nat_tests}
use Rattle.std.specs.Option.{option_or}
use Rattle.syntax_tree.specs.Plain.{Name}
use Rattle.syntax_tree.specs.Placed.{Param, Expr, Exprs, exprs, placed_exprs}
use Rattle.syntax_tree.specs.declared.place.Place.{Place}
use Rattle.syntax_tree.specs.declared.expr.Expr as code_expr
use Rattle.static_declarations.specs.Things.{sort_of}
use Rattle.static_types.specs.Sorts.{Named}
use Rattle.message_types.specs.Mismatches.{Mismatch, counts_differ, argument, count, miscounted, mismatch, unfit, args_mismatch}

not-eqb : (m n : ℕ) → (m ≡ n → ⊥) → (m == n) ≡ false
not-eqb m n other = grind (arith, nat_tests)

pub count_placed : (es : List code_expr.Expr) → count (placed_exprs es) ≡ length es
count_placed [] = refl
count_placed (e ∷ es) = omega (arith, count_placed es)

-- as many arguments as parameters, or not
pub as_many : (routine : Name) (vs : List (Param Place)) (es : Exprs Place) → count es ≡ length vs → None ≡ miscounted routine (Some vs) es
as_many routine vs es same = ap (λ b. if b then None else Some (counts_differ routine (length vs) (count es))) (sym (eq-eqb (count es) (length vs) same))

pub not_as_many : (routine : Name) (vs : List (Param Place)) (es : Exprs Place) → (count es ≡ length vs → ⊥) → Some (counts_differ routine (length vs) (count es)) ≡ miscounted routine (Some vs) es
not_as_many routine vs es other = ap (λ b. if b then None else Some (counts_differ routine (length vs) (count es))) (sym (not-eqb (count es) (length vs) other))

or-assoc : (x y z : Option Mismatch) → option_or x (option_or y z) ≡ option_or (option_or x y) z
or-assoc None y z = refl
or-assoc (Some m) y z = refl

-- an argument that agrees with its parameter
pub args_go : (named : Named) (routine : Name) (number : ℕ) (v : Param Place) (vs : List (Param Place)) (e : Expr Place) (es : Exprs Place)
    → unfit named (argument number routine) (sort_of v.kind) e ≡ None
    → args_mismatch named routine number (Some (v ∷ vs)) (exprs e es) ≡ args_mismatch named routine (number + 1) (Some vs) es
args_go named routine number v vs e es is =
    or-assoc (mismatch named e) _ _ ∙ ap (λ m. option_or m (args_mismatch named routine (number + 1) (Some vs) es)) is

-- one that does not
pub args_end : (named : Named) (routine : Name) (number : ℕ) (v : Param Place) (vs : List (Param Place)) (e : Expr Place) (es : Exprs Place) (m : Mismatch)
    → unfit named (argument number routine) (sort_of v.kind) e ≡ Some m
    → args_mismatch named routine number (Some (v ∷ vs)) (exprs e es) ≡ Some m
args_end named routine number v vs e es m is =
    or-assoc (mismatch named e) _ _ ∙ ap (λ m. option_or m (args_mismatch named routine (number + 1) (Some vs) es)) is
