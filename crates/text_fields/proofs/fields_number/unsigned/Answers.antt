use Rattle.std.proofs.Common.{◌≡◌, ◌+◌, ℕ, length, get_or, drop, arith, sym, ◌∙◌}
use Rattle.text_fields.proofs.Numerals.{no_empty, no_zero_first, no_other, no_more, next_digit, numeral_is, read_end, grind_some}
use Rattle.text_fields.proofs.fields_number.unsigned.Goals as goal
use Rattle.text_fields.proofs.Digits.{with_digit}

pub returns-then-is_empty-clause-none : goal.returns-then-is_empty-clause-none
returns-then-is_empty-clause-none c n most e = no_empty c.args.word.now n (omega arith) (grind arith) e

pub returns-then-has_leading_zero-clause-none : goal.returns-then-has_leading_zero-clause-none
returns-then-has_leading_zero-clause-none c n most e =
    let h = c.has_leading_zero.ensures.yes c.if-has_leading_zero.true in
    no_zero_first c.args.word.now n (omega arith) h.0 h.1 e

pub returns-then-not-is_digit-clause-none : goal.returns-then-not-is_digit-clause-none
returns-then-not-is_digit-clause-none c n most e =
    no_other c.args.word.now n c.loop-digit.digit-index (omega arith) c.loop-digit-test.true (c.is_digit.ensures.no c.if-not-is_digit.true) e

pub returns-then-value-most-clause-none : goal.returns-then-value-most-clause-none
returns-then-value-most-clause-none c n most e =
    no_more c.args.word.now n (with_digit c.loop-digit.value (get_or c.args.word.now c.loop-digit.digit-index 0)) (drop (c.loop-digit.digit-index + 1) c.args.word.now) (omega arith)
    (sym (next_digit c.loop-digit.value c.args.word.now c.loop-digit.digit-index c.loop-digit-test.true) ∙ c.loop-digit.invariant.read) (omega arith) e

pub returns-clause-found : goal.returns-clause-found
returns-clause-found c =
    let n : ℕ = c.loop-digit.digit-index in
    let end : n ≡ length c.args.word.now = omega arith in
    numeral_is c.args.word.now c.loop-digit.value (λ k below. c.loop-digit.invariant.digits k (omega arith))
    (read_end c.loop-digit.value c.args.word.now n (omega arith) c.loop-digit.invariant.read) (omega (arith, grind_some c.args.word.now c.is_empty.result c.is_empty.ensures c.if-is_empty.false))
    (c.has_leading_zero.ensures.no c.if-has_leading_zero.false) (omega arith)
