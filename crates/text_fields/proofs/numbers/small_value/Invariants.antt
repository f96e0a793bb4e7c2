use Rattle.std.proofs.Common.{◌≡◌, ◌≤◌, fold, drop}
use Rattle.text_fields.specs.LineFields.{value}
use Rattle.text_fields.proofs.Digits.{with_digit}
use Rattle.text_fields.proofs.numbers.small_value.Given as goal

abbrev pub invariant-loop-digit : goal.invariant-loop-digit
invariant-loop-digit l = (l.value ≤ 4294967295) × (fold with_digit l.value (drop l.digit-index l.digits) ≡ value l.digits)
