-- Values that are known, and what is put.
use Rattle.std.specs.Prelude.{◌≡◌, ℕ, ℤ, [], IfSome, Option, Some, None}
use Rattle.std.proofs.Common.{sym, ◌∙◌, ap}
use Rattle.base.specs.Words.{word}
use Rattle.syntax_tree.specs.Plain as plain
use Rattle.syntax_tree.specs.Placed.{placed_expr, placed_stmt, plain_expr, plain_stmt}
use Rattle.syntax_tree.specs.declared.place.Place.{Place}
use Rattle.syntax_tree.specs.declared.expr.Expr.{Expr}
use Rattle.syntax_tree.specs.declared.expr.Expr.TheVariants as e_is
use Rattle.syntax_tree.specs.declared.stmt.Stmt.{Stmt}
use Rattle.syntax_tree.specs.declared.stmt.Stmt.TheVariants as s_is
use Rattle.syntax_tree.proofs.Views as e_views
use Rattle.syntax_tree.proofs.StmtViews as s_views
use Rattle.source_semantics.specs.Names.{device_number}
use Rattle.source_semantics.specs.Run as run

pub some_all : {A : Type 0} (o : Option A) (P Q : A → Type 0) → ((a : A) → P a → Q a) → IfSome o P → IfSome o Q
some_all (Some a) P Q f h = f a h
some_all None P Q f h = h

pub of_variable : (e : Expr) (p : Place) (n : plain.Name) → e ≡ e_is.Variable p n → plain_expr (placed_expr e) ≡ plain.variable n
of_variable e p n is = ap (λ x. plain_expr (placed_expr x)) is ∙ ap plain_expr (e_views.expr-Variable p n)

-- a put of a value that is known
pub put_known : (c : run.Site) (m : run.Memory) (s : Stmt) (p : Place) (dev : plain.Name) (q : Place) (e : Expr) (d : ℕ) (v w : ℤ) → s ≡ s_is.Put p dev q e
    → run.value c m (plain_expr (placed_expr e)) ≡ word v → d ≡ device_number c.program dev → w ≡ v
    → run.run c m (plain_stmt (placed_stmt s)) ≡ run.stops (run.puts d w) [] [] m
put_known c m s p dev q e d v w is value device same =
    ap (λ x. run.run c m (plain_stmt (placed_stmt x))) is
    ∙ (ap (λ x. run.run c m (plain_stmt x)) (s_views.stmt-Put p dev q e)
    ∙ (ap (λ a. run.with_value a m (λ u. run.stops (run.puts (device_number c.program dev) u) [] [] m)) value
    ∙ (ap (λ k. run.stops (run.puts k v) [] [] m) (sym device) ∙ ap (λ u. run.stops (run.puts d u) [] [] m) (sym same))))
