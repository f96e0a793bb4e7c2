use Rattle.std.proofs.Common.{◌∙◌}
use Rattle.table_format.proofs.Turns.{made_is}
use Rattle.table_format.proofs.Pieces.{text_is}
use Rattle.table_format.proofs.text.table_text.Goals as goal

pub returns : goal.returns
returns c = made_is c.text_with.result _ _ c.text_with.ensures (text_is c.args.table.now _ (c.as_bytes.ensures ∙ c.in_ok-tail.ensures))
