use Rattle.std.proofs.Common.{◌≡◌, ◌≤◌, ◌<◌, ℕ, take, get_or}
use Rattle.std.specs.Int.{IsInRange}
use Rattle.text_fields.proofs.Numerals.{read_on}
use Rattle.script.proofs.quick.number_to.Given as goal

abbrev pub invariant-loop-at : goal.invariant-loop-at
invariant-loop-at l = record {
  small : l.number ≤ l.most;
  digits : (k : ℕ) → k < l.at → IsInRange 48 57 (get_or l.bytes k 0);
  read : read_on 0 (take l.at l.bytes) ≡ l.number;
}
