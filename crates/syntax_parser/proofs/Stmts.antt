-- Steps of the functions that read statements.
use Rattle.std.proofs.Common.{◌≡◌, ℕ, zero, suc, List, refl}
use Rattle.syntax_tree.specs.Placed.{Stmt}
use Rattle.syntax.specs.Words.{Tok}
use Rattle.syntax_reading.specs.ExprReading.{Parse, too_deep}
use Rattle.syntax_reading.specs.StmtReading.{stmt, stmt_by, choice, loop_stmt}

abbrev pub chosen : {P : Type 0} → ℕ → Parse P (Stmt P)
chosen zero = too_deep
chosen (suc depth) = choice depth (stmt depth)

abbrev pub turned : {P : Type 0} → ℕ → Parse P (Stmt P)
turned zero = too_deep
turned (suc depth) = loop_stmt (stmt depth)

pub stmt-by : {P : Type 0} (depth : ℕ) (ts : List (Tok P)) → stmt depth ts ≡ stmt_by depth (chosen depth) (turned depth) ts
unfolding stmt
stmt-by zero ts = refl
stmt-by (suc depth) ts = refl
