use Rattle.std.proofs.Common.{inr, refl}
use Rattle.command.specs.Settled.{idle, lost}
use Rattle.command.proofs.Settling.{err_told}
use Rattle.command.proofs.whole.settle.Goals as goal

pub returns-then-puts_nothing-clause-settled : goal.returns-then-puts_nothing-clause-settled
returns-then-puts_nothing-clause-settled g c =
    idle refl (c.puts_nothing.ensures.yes c.if-puts_nothing.true) c.into_sink.ensures.taken.0 c.into_sink.ensures.taken.1 c.into_sink.ensures.faults

pub returns-in-Err-clause-settled : goal.returns-in-Err-clause-settled
returns-in-Err-clause-settled g c =
    let other = c.puts_nothing.ensures.no c.if-puts_nothing.false in
    let front = err_told c.finish-written.result.0 c.in-Err.field-0 c.in-Err.is c.finish-written.ensures.front in
    let rose = err_told c.finish-written.result.0 c.in-Err.field-0 c.in-Err.is c.finish-written.ensures.failed in
    let some = err_told c.finish-written.result.0 c.in-Err.field-0 c.in-Err.is c.finish-written.ensures.some in
    lost refl other.0 other.1 front.0 front.1 rose some

pub returns-in-Err-clause-cause : goal.returns-in-Err-clause-cause
returns-in-Err-clause-cause g c =
    inr (refl, err_told c.finish-written.result.0 c.in-Err.field-0 c.in-Err.is c.finish-written.ensures.failed)
