-- Steps of the functions that read expressions.
use Rattle.std.proofs.Common.{◌≡◌, ℕ, zero, suc, ◌+◌, ◌-◌, ◌≤◌, List, [], ◌∷◌, map, Ok, Err, false, Box, Global, arith, ap, sym, ◌∙◌, refl}
use Rattle.syntax_tree.specs.declared.place.Place.{Place}
use Rattle.syntax_tree.specs.declared.expr.Op.{Op}
use Rattle.syntax_tree.specs.declared.expr.Expr.{Expr}
use Rattle.syntax_tree.specs.declared.expr.Expr.TheVariants.{Chain}
use Rattle.syntax_tree.specs.Placed as tree
use Rattle.syntax_tree.specs.Placed.{placed_expr, placed_operands, operand}
use Rattle.syntax_tree.proofs.Views.{expr-Chain}
use Rattle.syntax.specs.Words.{Tok}
use Rattle.syntax_reading.specs.ExprReading.{Parse, Fault, ◌>>=◌, is_some, op_at, operand_at, operands_at, factor, factor_in, inner, level, row_at, operands_from, joined}
use Rattle.syntax_parser.specs.Reads.{Reads, placed_pair, row_from}
use Rattle.syntax_parser.specs.declared.fault.Refusal.{Refusal}
use Rattle.syntax_parser.specs.declared.fault.Refusal.TheVariants.{Memory, Syntax, Nesting}
use Rattle.syntax_parser.proofs.Loops.{each-stop}

pub factor-inner : {P : Type 0} (depth : ℕ) (ts : List (Tok P)) → factor depth ts ≡ factor_in (inner depth) ts
unfolding factor
factor-inner zero ts = refl
factor-inner (suc depth) ts = refl

-- one level further, behind what was read
pub level-next : {P : Type 0} (p : Parse P (tree.Expr P)) (h k : ℕ) (e : tree.Expr P) (ts us : List (Tok P)) → k ≡ suc h → level p h ts ≡ Ok (e, us) → level p k ts ≡ row_from k (level p (k - 1)) e us
unfolding level row_at
level-next p h k e ts us next read =
    let back : h ≡ suc h - 1 = omega arith in
    ap (λ j. level p j ts) next ∙ ap (λ r. r >>= λ x. row_from (suc h) (level p h) x.0 x.1) read ∙ ap (λ j. row_from (suc h) (level p j) e us) back ∙ ap (λ j. row_from j (level p (j - 1)) e us) (sym next)

-- where no operator of the level is next
pub level-stays : {P : Type 0} (p : Parse P (tree.Expr P)) (h k : ℕ) (e : tree.Expr P) (ts us : List (Tok P)) → k ≡ suc h → level p h ts ≡ Ok (e, us) → is_some (op_at k us) ≡ false → level p k ts ≡ Ok (e, us)
unfolding operands_at
level-stays p h k e ts us next read none =
    level-next p h k e ts us next read ∙ ap (λ r. r >>= λ rs. Ok (joined e rs.0, rs.1)) (each-stop (λ vs. is_some (op_at k vs)) (operand_at k (level p (k - 1))) _ us none)

-- a failure at a lower level is one of all that stand above it
level-fails : {P : Type 0} (p : Parse P (tree.Expr P)) (h n : ℕ) (ts : List (Tok P)) (f : Fault) → level p h ts ≡ Err f → level p (n + h) ts ≡ Err f
unfolding level row_at
level-fails p h zero ts f fails = let same : zero + h ≡ h = omega arith in ap (λ j. level p j ts) same ∙ fails
level-fails p h (suc n) ts f fails =
    let same : suc n + h ≡ suc (n + h) = omega arith in
    ap (λ j. level p j ts) same ∙ ap (λ r. r >>= λ x. row_from (suc (n + h)) (level p (n + h)) x.0 x.1) (level-fails p h n ts f fails)

-- what a lower level could not read, none above it can
pub refused-above : (p : Parse Place (tree.Expr Place)) (h k : ℕ) (r : Refusal) (ts us vs : List (Tok Place)) → h ≤ k
    → Reads placed_expr (level p h ts) (Err r) us → Reads placed_expr (level p k ts) (Err r) vs
refused-above p h k (Memory _) ts us vs below fails = tt
refused-above p h k (Syntax n) ts us vs below fails = let same : k ≡ (k - h) + h = omega arith in ap (λ j. level p j ts) same ∙ level-fails p h (k - h) ts _ fails
refused-above p h k (Nesting n) ts us vs below fails = let same : k ≡ (k - h) + h = omega arith in ap (λ j. level p j ts) same ∙ level-fails p h (k - h) ts _ fails

operands-view : (rs : List (Op × Expr)) → placed_operands rs ≡ operands_from (map placed_pair rs)
operands-view [] = refl
operands-view (r ∷ rs) = ap (operand (tree.op_of r.0) (placed_expr r.1)) (operands-view rs)

joined-some : (e : tree.Expr Place) (rs : List (Op × Expr)) → (rs ≡ [] → ⊥)
    → joined e (map placed_pair rs) ≡ tree.row e (operands_from (map placed_pair rs))
joined-some e [] some = absurd (some refl)
joined-some e (r ∷ rs) some = refl

pub row-view : (e : Box Expr Global) (rs : List (Op × Expr)) → (rs ≡ [] → ⊥) → placed_expr (Chain e rs) ≡ joined (placed_expr e.value) (map placed_pair rs)
row-view e rs some = expr-Chain e rs ∙ ap (tree.row (placed_expr e.value)) (operands-view rs) ∙ sym (joined-some (placed_expr e.value) rs some)
