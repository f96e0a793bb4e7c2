use Rattle.std.proofs.Common.{◌≡◌, ◌≤◌, ◌<◌, ℕ, drop, get_or}
use Rattle.std.specs.Int.{IsInRange}
use Rattle.text_fields.proofs.Numerals.{read_on}
use Rattle.text_fields.proofs.fields_number.unsigned.Given as goal

abbrev pub invariant-loop-digit : goal.invariant-loop-digit
invariant-loop-digit l = record {
  small : l.value ≤ l.most;
  digits : (k : ℕ) → k < l.digit-index → IsInRange 48 57 (get_or l.word k 0);
  read : read_on l.value (drop l.digit-index l.word) ≡ read_on 0 l.word;
}
