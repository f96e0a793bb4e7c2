use Rattle.std.proofs.Common.{arith}
use Rattle.std.proofs.lemmas.Result.{err_from_is_err_and}
use Rattle.syntax.proofs.LawLemmas.{only_memory, only_fault, tokens_or_fault, read_whole}
use Rattle.syntax.proofs.lexer.lex.Goals as goal

pub returns-in_err-spot-clause-only : goal.returns-in_err-spot-clause-only
returns-in_err-spot-clause-only c toks listed =
    let p = err_from_is_err_and c.from_residual.result c.from_residual.ensures.1 in
    rw (p.1, p.2) (only_memory c.args.text.now toks c.in_err-spot.field-0.0 c.in_err-spot.ensures.err listed)

pub returns-in_err-spot-clause-only_fault : goal.returns-in_err-spot-clause-only_fault
returns-in_err-spot-clause-only_fault c fault faulty =
    let p = err_from_is_err_and c.from_residual.result c.from_residual.ensures.1 in
    rw (p.1, p.2) (only_fault c.args.text.now c.in_err-spot.field-0.0 fault c.in_err-spot.ensures.err faulty)

pub returns-clause-only_fault : goal.returns-clause-only_fault
returns-clause-only_fault c fault faulty =
    let listed = read_whole c.args.text.now c.loop-spot.spot c.loop-spot.list c.loop-spot.invariant.0 c.loop-spot.invariant.1 (omega arith) in
    tokens_or_fault c.args.text.now c.loop-spot.list fault listed faulty
