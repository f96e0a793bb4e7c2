use Rattle.std.proofs.Common.{arith, sym, ◌∙◌}
use Rattle.std.proofs.lemmas.Grind.{common_steps}
use Rattle.syntax_tree.specs.Placed.{placed_stmt}
use Rattle.syntax_tree.proofs.StmtViews.{stmt-If, stmt-IfElse, stmt-For}
use Rattle.syntax_reading.specs.StmtReading as reading
use Rattle.syntax_reading.specs.StmtReading.{begins, stmt}
use Rattle.syntax_parser.proofs.Stmts.{stmt-by}
use Rattle.syntax_parser.proofs.Parts.{loop_parts}
use Rattle.syntax_parser.proofs.Loops.{loop-stop, loop-last, loop-turn, each-turn}
use Rattle.syntax_parser.proofs.parser.Parser.+stmt.Goals as goal

pub stmts-returns-then-not-is_stmt : goal.stmts-returns-then-not-is_stmt
stmts-returns-then-not-is_stmt t c =
    sym c.loop-turn.invariant ∙ loop-stop placed_stmt begins (stmt c.args.depth) _ c.loop-turn.stmts c.loop-turn.self (sym c.is_stmt.ensures ∙ c.if-not-is_stmt.true)

pub stmts-returns : goal.stmts-returns
stmts-returns t c = sym c.loop-turn.invariant ∙ loop-last placed_stmt begins (stmt c.args.depth) _ _ c.loop-turn.stmts c.loop-turn.self c.loop-turn-test.false

pub stmts-returns-in-Err : goal.stmts-returns-in-Err
stmts-returns-in-Err t c =
    let e = each-turn begins (stmt c.args.depth) c.left-turns.result c.loop-turn._turn c.loop-turn.self (sym c.is_stmt.ensures ∙ c.if-not-is_stmt.false) c.loop-turn-test.true in
    grind (arith, common_steps)

pub stmts-loop-turn-preserved : goal.stmts-loop-turn-preserved
stmts-loop-turn-preserved t c =
    let go = sym c.is_stmt.ensures ∙ c.if-not-is_stmt.false in
    let e = loop-turn placed_stmt begins (stmt c.args.depth) c.left-turns.result c.loop-turn._turn c.loop-turn.stmts c.loop-turn.self c.stmt.new.self c.in-Ok.it go c.loop-turn-test.true c.in-Ok.ensures in
    grind (arith, common_steps)

pub stmt-returns-then-is_name : goal.stmt-returns-then-is_name
unfolding reading.stmt_by
stmt-returns-then-is_name t c =
    let e = stmt-by c.args.depth c.args.self.now in
    grind (arith, common_steps)

pub stmt-returns-in-Err : goal.stmt-returns-in-Err
unfolding reading.stmt_by
stmt-returns-in-Err t c =
    let e = stmt-by c.args.depth c.args.self.now in
    grind (arith, common_steps)

pub stmt-returns : goal.stmt-returns
unfolding reading.stmt_by
stmt-returns t c =
    let e = stmt-by c.args.depth c.args.self.now in
    grind (arith, common_steps)

pub choice_from-returns : goal.choice_from-returns
choice_from-returns t c = c.in-Ok.ensures c.args.place c.args.test c.args.first

pub choice_from-returns-in-Err : goal.choice_from-returns-in-Err
choice_from-returns-in-Err t c =
    let e = c.in-Err.ensures c.args.place c.args.test c.args.first in
    grind (arith, common_steps)

pub else_stmts-returns-then-is_keyword : goal.else_stmts-returns-then-is_keyword
unfolding reading.else_by reading.stmts
else_stmts-returns-then-is_keyword t c p e ss =
    let v = stmt-IfElse p e ss c.in-Ok-stmts.it in
    grind (arith, common_steps)

pub else_stmts-returns : goal.else_stmts-returns
unfolding reading.else_by reading.stmts
else_stmts-returns t c p e ss =
    let v = stmt-If p e ss in
    grind (arith, common_steps)

pub for_stmt-returns : goal.for_stmt-returns
for_stmt-returns t c =
    let e = loop_parts (stmt c.args.depth) c.args.self.now in
    let v = stmt-For c.in-Ok.it c.in-Ok-name.it.0 c.in-Ok-name.it.1 c.in-Ok-loop_bounds.it.0 c.in-Ok-loop_bounds.it.1 c.in-Ok-loop_body.it in
    grind (arith, common_steps)
