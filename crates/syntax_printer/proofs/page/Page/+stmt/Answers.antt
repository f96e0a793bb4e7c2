use Rattle.std.proofs.lemmas.Grind.{common_steps}
use Rattle.std.proofs.Common.{arith, ◌+◌, List, [], ◌∷◌, ◌++◌, drop, sym, ap, ◌∙◌}
use Rattle.syntax_tree.specs.Placed.{placed_constant, placed_expr, placed_stmt, placed_stmts}
use Rattle.syntax_tree.proofs.StmtViews.{stmt-If, stmt-IfElse, stmt-For}
use Rattle.syntax.specs.Words.{END, IF, ELSE, FOR}
use Rattle.syntax_printer.specs.Canonical.{Line, if_line, for_line, stmt_lines, stmts_lines}
use Rattle.syntax_printer.specs.Pages.{Paper, put, puts, ended, put_lines}
use Rattle.syntax_printer.proofs.Steps.{put_lines_append, turned, on_ok}
use Rattle.syntax_printer.proofs.page.Page.+stmt.Goals as goal
use Rattle.syntax_printer.proofs.page.Page.+stmt.Goals.{stmt-in-Some+in_ok-keyword_line-in-If+in_ok-stmts-in-If-2, stmt-in_default}

pub stmts-loop-stmt-preserved : goal.stmts-loop-stmt-preserved
stmts-loop-stmt-preserved t c =
    let x = c.stmt-item.result in
    let rest : List Line = stmts_lines (placed_stmts (drop (c.loop-stmt.stmt-index + 1) c.args.stmts.now)) in
    turned (λ p ys. put_lines p (stmts_lines (placed_stmts ys))) c.args.stmts.now c.loop-stmt.stmt-index x c.loop-stmt.self c.stmt.new.self _ c.loop-stmt-test.true c.stmt-item.is
    c.loop-stmt.invariant
    (put_lines_append c.loop-stmt.self (stmt_lines (placed_stmt x)) rest ∙ ap (λ p. put_lines p rest) (sym c.in_ok-stmt.ensures))

pub stmt-returns-after-second : goal.stmt-returns-after-second
stmt-returns-after-second t c =
    let top : Paper = ended (puts c.args.self.now (if_line (placed_expr c.in-If.test))) in
    let first : List Line = stmts_lines (placed_stmts c.in-If.first) in
    on_ok c.end_keyword.result c.end_keyword.ensures (λ e. elim c.match-second.branch [
      | stmt-in-Some+in_ok-keyword_line-in-If+in_ok-stmts-in-If-2 w ↦
          let second : List Line = stmts_lines (placed_stmts w.in-Some.second) in
          let v = stmt-IfElse c.in-If.place c.in-If.test c.in-If.first w.in-Some.second in
          let a = put_lines_append top first ((ELSE ∷ []) ∷ (second ++ (END ∷ IF ∷ []) ∷ [])) in
          let b = put_lines_append (ended (put (put_lines top first) ELSE)) second ((END ∷ IF ∷ []) ∷ []) in
          grind (arith, common_steps)
      | stmt-in_default w ↦
          let v = stmt-If c.in-If.place c.in-If.test c.in-If.first in
          let a = put_lines_append top first ((END ∷ IF ∷ []) ∷ []) in
          grind (arith, common_steps)
    ])

pub stmt-returns-in_ok-stmts-in-For : goal.stmt-returns-in_ok-stmts-in-For
stmt-returns-in_ok-stmts-in-For t c =
    let top : Paper = ended (puts c.args.self.now (for_line c.in-For.name (placed_constant c.in-For.low.value) (placed_constant c.in-For.high.value))) in
    on_ok c.end_keyword-in-For.result c.end_keyword-in-For.ensures (λ e.
    let v = stmt-For c.in-For.place c.in-For.name c.in-For.name_place c.in-For.low c.in-For.high c.in-For.body in
    let a = put_lines_append top (stmts_lines (placed_stmts c.in-For.body)) ((END ∷ FOR ∷ []) ∷ []) in
    grind (arith, common_steps))
