use Rattle.std.proofs.Common.{ℕ, ◌+◌, arith, drop, slice_index_or, sym}
use Rattle.std.proofs.lemmas.Bool.{lt-ltb}
use Rattle.text_fields.specs.LineFields.{value}
use Rattle.text_fields.proofs.Digits.{more_digits, next_digit, with_digit}
use Rattle.message_script.proofs.numbers.is_above.Goals as goal

pub returns-then-value-most : goal.returns-then-value-most
returns-then-value-most c =
    let n : ℕ = with_digit c.loop-digit.value (slice_index_or c.args.digits.now c.loop-digit.digit-index 0) in
    let more = more_digits n (drop (c.loop-digit.digit-index + 1) c.args.digits.now) in
    let next = next_digit c.loop-digit.value c.args.digits.now c.loop-digit.digit-index c.loop-digit-test.true in
    sym (lt-ltb c.args.most (value c.args.digits.now) (grind (arith, more, next)))
