use Rattle.std.proofs.Common.{◌≡◌, ◌≤◌, fold, drop}
use Rattle.text_fields.specs.LineFields.{value}
use Rattle.text_fields.proofs.Digits.{with_digit}
use Rattle.message_script.proofs.numbers.is_above.Given as goal

abbrev pub invariant-loop-digit : goal.invariant-loop-digit
invariant-loop-digit l = (l.value ≤ l.most) × (fold with_digit l.value (drop l.digit-index l.digits) ≡ value l.digits)
