use Rattle.std.proofs.Common.{ℕ, ◌+◌, arith, drop, slice_index_or, sym}
use Rattle.text_fields.specs.LineFields.{value}
use Rattle.text_fields.proofs.Digits.{more_digits, next_digit, with_digit, too_large}
use Rattle.text_fields.proofs.numbers.small_value.Goals as goal

pub returns-then-value-gt4294967295 : goal.returns-then-value-gt4294967295
returns-then-value-gt4294967295 c =
    let n : ℕ = with_digit c.loop-digit.value (slice_index_or c.args.digits.now c.loop-digit.digit-index 0) in
    let more = more_digits n (drop (c.loop-digit.digit-index + 1) c.args.digits.now) in
    let next = next_digit c.loop-digit.value c.args.digits.now c.loop-digit.digit-index c.loop-digit-test.true in
    sym (too_large (value c.args.digits.now) (grind (arith, more, next)))
