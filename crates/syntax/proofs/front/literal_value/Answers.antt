use Rattle.std.proofs.Common.{ℕ, ◌+◌, arith, drop, slice_index_or}
use Rattle.syntax.proofs.LiteralLemmas.{more_digits, next_digit, with_digit}
use Rattle.syntax.proofs.front.literal_value.Goals as goal

pub returns-then-value-gt-GREATEST_LITERAL-clause-none :
    goal.returns-then-value-gt-GREATEST_LITERAL-clause-none
returns-then-value-gt-GREATEST_LITERAL-clause-none c =
    let value : ℕ = with_digit c.loop-digit.value (slice_index_or c.args.digits.now c.loop-digit.digit-index 0) in
    let more = more_digits value (drop (c.loop-digit.digit-index + 1) c.args.digits.now) in
    let next = next_digit c.loop-digit.value c.args.digits.now c.loop-digit.digit-index c.loop-digit-test.true in
    grind (arith, more, next)
