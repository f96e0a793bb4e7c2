use Rattle.std.proofs.Common.{arith, sym, ◌∙◌}
use Rattle.std.proofs.lemmas.Grind.{common_steps}
use Rattle.syntax_tree.specs.Placed.{placed_param}
use Rattle.syntax.specs.Words.{COMMA}
use Rattle.syntax_reading.specs.ExprReading.{is_at, behind_comma}
use Rattle.syntax_reading.specs.Reading.{param}
use Rattle.syntax_parser.proofs.Loops.{loop-stop, loop-last, loop-turn, each-turn}
use Rattle.syntax_parser.proofs.parser.Parser.more_params.Goals as goal

pub returns-then-not-is_sign : goal.returns-then-not-is_sign
returns-then-not-is_sign c =
    sym c.loop-turn.invariant ∙ loop-stop placed_param (is_at COMMA) (behind_comma param) _ c.loop-turn.params c.loop-turn.self (sym c.is_sign.ensures ∙ c.if-not-is_sign.true)

pub returns : goal.returns
returns c = sym c.loop-turn.invariant ∙ loop-last placed_param (is_at COMMA) (behind_comma param) _ _ c.loop-turn.params c.loop-turn.self c.loop-turn-test.false

pub returns-in-Err : goal.returns-in-Err
returns-in-Err c =
    let e = each-turn (is_at COMMA) (behind_comma param) c.left-turns.result c.loop-turn._turn c.loop-turn.self (sym c.is_sign.ensures ∙ c.if-not-is_sign.false) c.loop-turn-test.true in
    grind (arith, common_steps)

pub loop-turn-preserved : goal.loop-turn-preserved
loop-turn-preserved c =
    let go = sym c.is_sign.ensures ∙ c.if-not-is_sign.false in
    let e = loop-turn placed_param (is_at COMMA) (behind_comma param) c.left-turns.result c.loop-turn._turn c.loop-turn.params c.loop-turn.self c.next_param.new.self c.in-Ok.it go c.loop-turn-test.true c.in-Ok.ensures in
    grind (arith, common_steps)
