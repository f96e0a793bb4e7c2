use Rattle.std.proofs.Common.{length, refl, arith}
use Rattle.text_fields.proofs.Cuts.{cut_made, lacks_whole}
use Rattle.event_log.proofs.FirstLine.{before_first, nowhere}
use Rattle.event_log.proofs.reader.first_line.Goals as goal

pub returns-in-None-clause-none : goal.returns-in-None-clause-none
returns-in-None-clause-none c = lacks_whole 10 c.args.text.now (length c.args.text.now) (nowhere 10 c.args.text.now c.in-None.ensures) refl

pub returns-in-Some-clause-found : goal.returns-in-Some-clause-found
returns-in-Some-clause-found c =
    let first = c.in-Some.ensures.0 in
    let at = before_first 10 c.args.text.now c.in-Some.len first.high first.before c.in-Some.ensures.1 in
    cut_made 10 c.args.text.now c.in-Some.len at (omega (arith, first.high)) (λ same. omega (arith, first.high, same))
