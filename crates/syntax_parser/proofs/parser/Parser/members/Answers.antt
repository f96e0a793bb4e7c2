use Rattle.std.proofs.Common.{arith, sym, ◌∙◌}
use Rattle.std.proofs.lemmas.Grind.{common_steps}
use Rattle.syntax_tree.specs.Placed.{placed_member}
use Rattle.syntax_reading.specs.Reading.{begins_member, member}
use Rattle.syntax_parser.proofs.Loops.{loop-stop, loop-last, loop-turn, each-turn}
use Rattle.syntax_parser.proofs.parser.Parser.members.Goals as goal

pub returns-then-not-is_member : goal.returns-then-not-is_member
returns-then-not-is_member c =
    sym c.loop-turn.invariant ∙ loop-stop placed_member begins_member member _ c.loop-turn.members c.loop-turn.self (sym c.is_member.ensures ∙ c.if-not-is_member.true)

pub returns : goal.returns
returns c = sym c.loop-turn.invariant ∙ loop-last placed_member begins_member member _ _ c.loop-turn.members c.loop-turn.self c.loop-turn-test.false

pub returns-in-Err : goal.returns-in-Err
returns-in-Err c =
    let e = each-turn begins_member member c.left-turns.result c.loop-turn._turn c.loop-turn.self (sym c.is_member.ensures ∙ c.if-not-is_member.false) c.loop-turn-test.true in
    grind (arith, common_steps)

pub loop-turn-preserved : goal.loop-turn-preserved
loop-turn-preserved c =
    let go = sym c.is_member.ensures ∙ c.if-not-is_member.false in
    let e = loop-turn placed_member begins_member member c.left-turns.result c.loop-turn._turn c.loop-turn.members c.loop-turn.self c.member.new.self c.in-Ok.it go c.loop-turn-test.true c.in-Ok.ensures in
    grind (arith, common_steps)
