use Rattle.std.proofs.Common.{arith}
use Rattle.message_text.proofs.Cuts.{behind_more, line_past, line_reached}
use Rattle.message_text.proofs.lines.line.Goals as goal

pub returns-in-None : goal.returns-in-None
returns-in-None c =
    line_past c.args.text.now c.loop-before.left.now c.cut.result.0.now c.args.number c.loop-before._before c.if-number-eq0.false c.loop-before-test.true
    (rw c.in-None.is at c.cut.ensures.pieces) c.loop-before.invariant

pub loop-before-preserved : goal.loop-before-preserved
loop-before-preserved c =
    behind_more c.args.text.now c.loop-before.left.now c.cut.result.0.now c.in-Some.rest.now c.loop-before._before (rw c.in-Some.is at c.cut.ensures.pieces) c.loop-before.invariant

pub returns : goal.returns
returns c =
    line_reached c.args.text.now c.loop-before.left.now c.cut-2.result.0.now _ c.args.number c.loop-before._before c.if-number-eq0.false
    (omega (arith, c.loop-before-test.false, c.loop-before.auto._before-end)) c.cut-2.ensures.pieces c.loop-before.invariant
