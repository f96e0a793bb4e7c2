use Rattle.std.proofs.Common.{◌≡◌, ◌≤◌, fold, drop}
use Rattle.syntax.specs.Spellings.{decimal}
use Rattle.syntax.proofs.LiteralLemmas.{with_digit}
use Rattle.syntax.proofs.front.literal_value.Given as goal

abbrev pub invariant-loop-digit : goal.invariant-loop-digit
invariant-loop-digit l = (l.value ≤ 2147483647) × (fold with_digit l.value (drop l.digit-index l.digits) ≡ decimal l.digits)
