use Rattle.std.proofs.Common.{◌≡◌, ◌++◌, List, OnOk, subst}
use Rattle.message_words.specs.Usage.{Row, table}
use Rattle.message_words.proofs.usages.add_all.Goals as goal

pub returns : goal.returns
returns c =
    subst (λ (rows : List Row). OnOk c.add_table.result (c.add_table.new.text ≡ c.args.text.now ++ table rows)) c.rows.ensures c.add_table.ensures
