use Rattle.std.proofs.Common.{arith, sym, ◌∙◌}
use Rattle.std.proofs.lemmas.Grind.{common_steps}
use Rattle.syntax_tree.specs.Placed.{placed_routine}
use Rattle.syntax.specs.Words.{ENTRY}
use Rattle.syntax.specs.Grammar.{MOST_LEVELS}
use Rattle.syntax_reading.specs.ExprReading.{is_at}
use Rattle.syntax_reading.specs.Reading.{entry_decl}
use Rattle.syntax_parser.proofs.Loops.{loop-stop, loop-last, loop-turn, each-turn}
use Rattle.syntax_parser.proofs.parser.Parser.entries.Goals as goal

pub returns-then-not-is_keyword : goal.returns-then-not-is_keyword
returns-then-not-is_keyword c =
    sym c.loop-turn.invariant ∙ loop-stop placed_routine (is_at ENTRY) (entry_decl MOST_LEVELS) _ c.loop-turn.entries c.loop-turn.self (sym c.is_keyword.ensures ∙ c.if-not-is_keyword.true)

pub returns : goal.returns
returns c = sym c.loop-turn.invariant ∙ loop-last placed_routine (is_at ENTRY) (entry_decl MOST_LEVELS) _ _ c.loop-turn.entries c.loop-turn.self c.loop-turn-test.false

pub returns-in-Err : goal.returns-in-Err
returns-in-Err c =
    let e = each-turn (is_at ENTRY) (entry_decl MOST_LEVELS) c.left-turns.result c.loop-turn._turn c.loop-turn.self (sym c.is_keyword.ensures ∙ c.if-not-is_keyword.false) c.loop-turn-test.true in
    grind (arith, common_steps)

pub loop-turn-preserved : goal.loop-turn-preserved
loop-turn-preserved c =
    let go = sym c.is_keyword.ensures ∙ c.if-not-is_keyword.false in
    let e = loop-turn placed_routine (is_at ENTRY) (entry_decl MOST_LEVELS) c.left-turns.result c.loop-turn._turn c.loop-turn.entries c.loop-turn.self c.entry_decl.new.self c.in-Ok.it go c.loop-turn-test.true c.in-Ok.ensures in
    grind (arith, common_steps)
