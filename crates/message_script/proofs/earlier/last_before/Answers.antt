use Rattle.std.proofs.Common.{sym, ◌∙◌}
use Rattle.message_text.specs.Shown.{lines}
use Rattle.message_script.specs.Earlier.{last_before}
use Rattle.message_script.specs.Sought.{is_such}
use Rattle.message_script.proofs.Walks.{walk_ended, walk_last, walk_more}
use Rattle.message_script.proofs.earlier.last_before.Goals as goal

pub returns-in-None : goal.returns-in-None
unfolding last_before
returns-in-None c =
    sym (walk_last (is_such c.args.sought) (lines c.loop-earlier.left.now) c.cut.result.0.now c.args.number c.loop-earlier.earlier c.loop-earlier.last c.newer-last.result
    (rw c.in-None.is at c.cut.ensures.pieces) c.loop-earlier-test.true (rw c.is_such.ensures at c.newer-last.ensures))
    ∙ c.loop-earlier.invariant

pub loop-earlier-preserved : goal.loop-earlier-preserved
loop-earlier-preserved c =
    sym (walk_more (is_such c.args.sought) (lines c.loop-earlier.left.now) (lines c.in-Some.more.now) c.cut.result.0.now c.args.number c.loop-earlier.earlier c.loop-earlier.last c.newer-last.result
    (rw c.in-Some.is at c.cut.ensures.pieces) c.loop-earlier-test.true (rw c.is_such.ensures at c.newer-last.ensures))
    ∙ c.loop-earlier.invariant

pub returns : goal.returns
unfolding last_before
returns c =
    sym (walk_ended (is_such c.args.sought) (lines c.loop-earlier.left.now) c.args.number c.loop-earlier.earlier c.loop-earlier.last c.loop-earlier-test.false)
    ∙ c.loop-earlier.invariant
