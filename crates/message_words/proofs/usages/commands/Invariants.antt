use Rattle.std.proofs.Common.{◌≡◌, take, map}
use Rattle.message_words.specs.Seen.{row_of}
use Rattle.message_words.proofs.usages.commands.Given as goal

abbrev pub invariant-loop-row : goal.invariant-loop-row
invariant-loop-row l = map (λ command. command.now) l.all.items ≡ map (λ row. row.command) (map row_of (take l.row-index l.rows))
