use Rattle.std.proofs.Common.{◌==◌, take_all}
use Rattle.std.proofs.lemmas.List.{take_rest}
use Rattle.std.proofs.lemmas.List.Splits.{slice_split_none}
use Rattle.message_text.proofs.Cuts.{piece_cut, before_more}
use Rattle.message_text.proofs.lines.cut.Goals as goal

pub returns-then-bytes-at-clause-pieces : goal.returns-then-bytes-at-clause-pieces
returns-then-bytes-at-clause-pieces c = rw take_rest (piece_cut c.args.stop c.args.bytes.now c.loop-at.at c.loop-at-test.true c.if-bytes-at.true c.loop-at.invariant)

pub loop-at-preserved : goal.loop-at-preserved
loop-at-preserved c = before_more c.args.stop c.args.bytes.now c.loop-at.at c.loop-at-test.true c.if-bytes-at.false c.loop-at.invariant

pub returns-clause-pieces : goal.returns-clause-pieces
returns-clause-pieces c = slice_split_none (λ b. b == c.args.stop) c.args.bytes.now (rw (take_all _ _ c.loop-at-test.false) at c.loop-at.invariant)
