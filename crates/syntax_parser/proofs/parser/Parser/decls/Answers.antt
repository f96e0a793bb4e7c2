use Rattle.std.proofs.Common.{arith, sym, ◌∙◌}
use Rattle.std.proofs.lemmas.Grind.{common_steps}
use Rattle.syntax_tree.specs.Placed.{placed_decl}
use Rattle.syntax.specs.Grammar.{MOST_LEVELS}
use Rattle.syntax_reading.specs.Reading.{begins_decl, decl}
use Rattle.syntax_parser.proofs.Loops.{loop-stop, loop-last, loop-turn, each-turn}
use Rattle.syntax_parser.proofs.parser.Parser.decls.Goals as goal

pub returns-then-not-is_decl : goal.returns-then-not-is_decl
returns-then-not-is_decl c =
    sym c.loop-turn.invariant ∙ loop-stop placed_decl begins_decl (decl MOST_LEVELS) _ c.loop-turn.decls c.loop-turn.self (sym c.is_decl.ensures ∙ c.if-not-is_decl.true)

pub returns : goal.returns
returns c = sym c.loop-turn.invariant ∙ loop-last placed_decl begins_decl (decl MOST_LEVELS) _ _ c.loop-turn.decls c.loop-turn.self c.loop-turn-test.false

pub returns-in-Err : goal.returns-in-Err
returns-in-Err c =
    let e = each-turn begins_decl (decl MOST_LEVELS) c.left-turns.result c.loop-turn._turn c.loop-turn.self (sym c.is_decl.ensures ∙ c.if-not-is_decl.false) c.loop-turn-test.true in
    grind (arith, common_steps)

pub loop-turn-preserved : goal.loop-turn-preserved
loop-turn-preserved c =
    let go = sym c.is_decl.ensures ∙ c.if-not-is_decl.false in
    let e = loop-turn placed_decl begins_decl (decl MOST_LEVELS) c.left-turns.result c.loop-turn._turn c.loop-turn.decls c.loop-turn.self c.decl.new.self c.in-Ok.it go c.loop-turn-test.true c.in-Ok.ensures in
    grind (arith, common_steps)
