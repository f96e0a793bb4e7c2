use Rattle.std.proofs.Common.{◌≡◌, ◌-◌, ◌+◌, arith, subst, Err, sym, ◌∙◌, []}
use Rattle.std.proofs.lemmas.Grind.{common_steps}
use Rattle.syntax_tree.specs.Placed.{placed_expr}
use Rattle.syntax.specs.Words.{COMMA}
use Rattle.syntax_reading.specs.ExprReading as reading
use Rattle.syntax_reading.specs.ExprReading.{is_at, is_some, op_at, operand_at, behind_comma, level, factor, expr}
use Rattle.syntax_parser.specs.Reads.{Reads, placed_pair}
use Rattle.syntax_parser.proofs.Loops.{loop-stop, loop-last, loop-turn, each-turn}
use Rattle.syntax_parser.proofs.Rows.{factor-inner, level-next, level-stays, refused-above, row-view}
use Rattle.syntax_parser.proofs.parser.Parser.+expr.Goals.{level-then-has_op+in-Ok-row, level-else-has_op}
use Rattle.syntax_parser.proofs.parser.Parser.+expr.Goals as goal

pub factor-returns : goal.factor-returns
unfolding reading.factor_in
factor-returns t c =
    let e = factor-inner c.args.depth c.args.self.now in
    grind (arith, common_steps)

pub factor-returns-in-Err : goal.factor-returns-in-Err
unfolding reading.factor_in
factor-returns-in-Err t c =
    let e = factor-inner c.args.depth c.args.self.now in
    grind (arith, common_steps)

pub level-returns-in-Err : goal.level-returns-in-Err
unfolding level
level-returns-in-Err t c =
    let above = refused-above (factor c.args.depth) 0 c.args.height c.in-Err.refusal c.args.self.now c.factor.new.self c.factor.new.self (omega arith) c.in-Err.ensures in
    grind (arith, common_steps)

pub level-returns-in-Err-row : goal.level-returns-in-Err-row
level-returns-in-Err-row t c =
    let next = level-next (factor c.args.depth) c.loop-below.below (c.loop-below.below + 1) (placed_expr c.loop-below.expr) c.args.self.now c.loop-below.self (omega arith) c.loop-below.invariant in
    let above = refused-above (factor c.args.depth) (c.loop-below.below + 1) c.args.height c.in-Err-row.refusal c.args.self.now c.row.new.self c.row.new.self (omega (arith, c.loop-below-test.true)) (subst (λ r. Reads placed_expr r (Err c.in-Err-row.refusal) c.row.new.self) (sym next) c.in-Err-row.ensures) in
    grind (arith, common_steps)

pub level-loop-below-preserved : goal.level-loop-below-preserved
level-loop-below-preserved t c = elim c.if-has_op.branch [
  | level-then-has_op+in-Ok-row w ↦
      let next = level-next (factor c.args.depth) c.loop-below.below (c.loop-below.below + 1) (placed_expr c.loop-below.expr) c.args.self.now c.loop-below.self (omega arith) c.loop-below.invariant in
      let more = next ∙ w.in-Ok-row.ensures in
      grind (arith, common_steps)
  | level-else-has_op w ↦
      let stays = level-stays (factor c.args.depth) c.loop-below.below (c.loop-below.below + 1) (placed_expr c.loop-below.expr) c.args.self.now c.loop-below.self (omega arith) c.loop-below.invariant (sym c.has_op.ensures ∙ w.if-has_op.false) in
      grind (arith, common_steps)
]

pub row-returns : goal.row-returns
row-returns t c =
    let some : c.in-Ok.it ≡ [] → ⊥ = λ e. grind (arith, common_steps) in
    let v = row-view c.in-Ok-boxed.it c.in-Ok.it some in
    grind (arith, common_steps)

pub more_args-returns-then-not-is_sign : goal.more_args-returns-then-not-is_sign
more_args-returns-then-not-is_sign t c =
    sym c.loop-turn.invariant ∙ loop-stop placed_expr (is_at COMMA) (behind_comma (expr c.args.depth)) _ c.loop-turn.args c.loop-turn.self (sym c.is_sign.ensures ∙ c.if-not-is_sign.true)

pub more_args-returns : goal.more_args-returns
more_args-returns t c =
    sym c.loop-turn.invariant ∙ loop-last placed_expr (is_at COMMA) (behind_comma (expr c.args.depth)) _ _ c.loop-turn.args c.loop-turn.self c.loop-turn-test.false

pub more_args-returns-in-Err : goal.more_args-returns-in-Err
more_args-returns-in-Err t c =
    let e = each-turn (is_at COMMA) (behind_comma (expr c.args.depth)) c.left-turns.result c.loop-turn._turn c.loop-turn.self (sym c.is_sign.ensures ∙ c.if-not-is_sign.false) c.loop-turn-test.true in
    grind (arith, common_steps)

pub more_args-loop-turn-preserved : goal.more_args-loop-turn-preserved
more_args-loop-turn-preserved t c =
    let go = sym c.is_sign.ensures ∙ c.if-not-is_sign.false in
    let e = loop-turn placed_expr (is_at COMMA) (behind_comma (expr c.args.depth)) c.left-turns.result c.loop-turn._turn c.loop-turn.args c.loop-turn.self c.more_arg.new.self c.in-Ok.it go c.loop-turn-test.true c.in-Ok.ensures in
    grind (arith, common_steps)

pub operands-returns-then-not-has_op : goal.operands-returns-then-not-has_op
unfolding reading.operands_at
operands-returns-then-not-has_op t c =
    sym c.loop-turn.invariant ∙ loop-stop placed_pair (λ us. is_some (op_at c.args.height us)) (operand_at c.args.height (level (factor c.args.depth) (c.args.height - 1))) _ c.loop-turn.rest c.loop-turn.self (sym c.has_op.ensures ∙ c.if-not-has_op.true)

pub operands-returns : goal.operands-returns
operands-returns t c =
    sym c.loop-turn.invariant ∙ loop-last placed_pair (λ us. is_some (op_at c.args.height us)) (operand_at c.args.height (level (factor c.args.depth) (c.args.height - 1))) _ _ c.loop-turn.rest c.loop-turn.self c.loop-turn-test.false

pub operands-returns-in-Err : goal.operands-returns-in-Err
operands-returns-in-Err t c =
    let e = each-turn (λ us. is_some (op_at c.args.height us)) (operand_at c.args.height (level (factor c.args.depth) (c.args.height - 1))) c.if-height-eq3.turns c.loop-turn._turn c.loop-turn.self (sym c.has_op.ensures ∙ c.if-not-has_op.false) c.loop-turn-test.true in
    grind (arith, common_steps)

pub operands-loop-turn-preserved : goal.operands-loop-turn-preserved
operands-loop-turn-preserved t c =
    let go = sym c.has_op.ensures ∙ c.if-not-has_op.false in
    let e = loop-turn placed_pair (λ us. is_some (op_at c.args.height us)) (operand_at c.args.height (level (factor c.args.depth) (c.args.height - 1))) c.if-height-eq3.turns c.loop-turn._turn c.loop-turn.rest c.loop-turn.self c.operand.new.self c.in-Ok.it go c.loop-turn-test.true c.in-Ok.ensures in
    grind (arith, common_steps)
