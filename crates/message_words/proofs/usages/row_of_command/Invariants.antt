use Rattle.std.proofs.Common.{◌≡◌, drop, map}
use Rattle.std.specs.Prelude.{bytes_eq, find}
use Rattle.message_words.specs.Seen.{row_of}
use Rattle.message_words.proofs.usages.row_of_command.Given as goal

abbrev pub invariant-loop-row : goal.invariant-loop-row
invariant-loop-row l = find (λ row. bytes_eq row.command l.word) (map row_of (drop l.row-index l.rows)) ≡ find (λ row. bytes_eq row.command l.word) (map row_of l.rows)
