use Rattle.std.proofs.Common.{◌≡◌, ◌++◌, drop, map}
use Rattle.std.specs.Prelude.{flat_map}
use Rattle.message_words.specs.Seen.{row_of}
use Rattle.message_words.specs.Usage.{row_line}
use Rattle.message_words.proofs.tables.add_rows.Given as goal

abbrev pub invariant-loop-row : goal.invariant-loop-row
invariant-loop-row l = l.text ++ flat_map row_line (map row_of (drop l.row-index l.rows)) ≡ l.fn.text ++ flat_map row_line (map row_of l.rows)
