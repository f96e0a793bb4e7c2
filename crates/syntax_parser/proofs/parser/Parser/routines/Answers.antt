use Rattle.std.proofs.Common.{arith, sym, ◌∙◌}
use Rattle.std.proofs.lemmas.Grind.{common_steps}
use Rattle.syntax_tree.specs.Placed.{placed_routine}
use Rattle.syntax.specs.Grammar.{MOST_LEVELS}
use Rattle.syntax_reading.specs.Reading.{begins_routine, routine_decl}
use Rattle.syntax_parser.proofs.Loops.{loop-stop, loop-last, loop-turn, each-turn}
use Rattle.syntax_parser.proofs.parser.Parser.routines.Goals as goal

pub returns-then-not-is_routine : goal.returns-then-not-is_routine
returns-then-not-is_routine c =
    sym c.loop-turn.invariant ∙ loop-stop placed_routine begins_routine (routine_decl MOST_LEVELS) _ c.loop-turn.routines c.loop-turn.self (sym c.is_routine.ensures ∙ c.if-not-is_routine.true)

pub returns : goal.returns
returns c = sym c.loop-turn.invariant ∙ loop-last placed_routine begins_routine (routine_decl MOST_LEVELS) _ _ c.loop-turn.routines c.loop-turn.self c.loop-turn-test.false

pub returns-in-Err : goal.returns-in-Err
returns-in-Err c =
    let e = each-turn begins_routine (routine_decl MOST_LEVELS) c.left-turns.result c.loop-turn._turn c.loop-turn.self (sym c.is_routine.ensures ∙ c.if-not-is_routine.false) c.loop-turn-test.true in
    grind (arith, common_steps)

pub loop-turn-preserved : goal.loop-turn-preserved
loop-turn-preserved c =
    let go = sym c.is_routine.ensures ∙ c.if-not-is_routine.false in
    let e = loop-turn placed_routine begins_routine (routine_decl MOST_LEVELS) c.left-turns.result c.loop-turn._turn c.loop-turn.routines c.loop-turn.self c.routine.new.self c.in-Ok.it go c.loop-turn-test.true c.in-Ok.ensures in
    grind (arith, common_steps)
