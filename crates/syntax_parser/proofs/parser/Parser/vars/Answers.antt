use Rattle.std.proofs.Common.{arith, sym, ◌∙◌}
use Rattle.std.proofs.lemmas.Grind.{common_steps}
use Rattle.syntax_tree.specs.Placed.{placed_var}
use Rattle.syntax.specs.Words.{VAR}
use Rattle.syntax_reading.specs.ExprReading.{is_at}
use Rattle.syntax_reading.specs.Reading.{var}
use Rattle.syntax_parser.proofs.Loops.{loop-stop, loop-last, loop-turn, each-turn}
use Rattle.syntax_parser.proofs.parser.Parser.vars.Goals as goal

pub returns-then-not-is_keyword : goal.returns-then-not-is_keyword
returns-then-not-is_keyword c =
    sym c.loop-turn.invariant ∙ loop-stop placed_var (is_at VAR) var _ c.loop-turn.vars c.loop-turn.self (sym c.is_keyword.ensures ∙ c.if-not-is_keyword.true)

pub returns : goal.returns
returns c = sym c.loop-turn.invariant ∙ loop-last placed_var (is_at VAR) var _ _ c.loop-turn.vars c.loop-turn.self c.loop-turn-test.false

pub returns-in-Err : goal.returns-in-Err
returns-in-Err c =
    let e = each-turn (is_at VAR) var c.left-turns.result c.loop-turn._turn c.loop-turn.self (sym c.is_keyword.ensures ∙ c.if-not-is_keyword.false) c.loop-turn-test.true in
    grind (arith, common_steps)

pub loop-turn-preserved : goal.loop-turn-preserved
loop-turn-preserved c =
    let go = sym c.is_keyword.ensures ∙ c.if-not-is_keyword.false in
    let e = loop-turn placed_var (is_at VAR) var c.left-turns.result c.loop-turn._turn c.loop-turn.vars c.loop-turn.self c.var.new.self c.in-Ok.it go c.loop-turn-test.true c.in-Ok.ensures in
    grind (arith, common_steps)
