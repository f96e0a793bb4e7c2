use Rattle.std.proofs.Common.{◌≡◌, ◌≤◌, min, take}
use Rattle.text_fields.specs.LineFields.{value}
use Rattle.message_table.proofs.numerals.ticks.Given as goal

abbrev pub invariant-loop-digit : goal.invariant-loop-digit
invariant-loop-digit l = record {
  value : l.ticks ≡ min (value (take l.digit-index l.word)) 1000000001;
  within : l.ticks ≤ 1000000001;
}
