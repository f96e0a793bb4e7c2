use Rattle.std.proofs.Common.{List, ap, ◌∙◌}
use Rattle.std.specs.Prelude.{bytes_eq, find}
use Rattle.message_words.specs.Usage.{Row}
use Rattle.message_words.proofs.usages.command_row.Goals as goal

pub returns : goal.returns
returns c = c.row_of_command.ensures ∙ ap (λ (rows : List Row). find (λ row. bytes_eq row.command c.args.word.now) rows) c.rows.ensures
