use Rattle.std.proofs.Common.{◌∙◌}
use Rattle.std.proofs.lemmas.Result.{on_ok_weaker}
use Rattle.table_format.proofs.Pieces.{entry_put}
use Rattle.table_format.proofs.monitors.add_entry.Goals as goal

pub returns : goal.returns
returns c =
    on_ok_weaker c.add_parts-3.result (λ last. entry_put c.args.tail.now c.args.ticks c.as_bytes-name.result.now c.saturating_sub.result c.args.text.now _ _ _ _ (c.as_bytes-name.ensures.value ∙ c.format.ensures.text) c.saturating_sub.ensures c.in_ok-add_parts.ensures c.in_ok-add_parts-2.ensures c.in_ok-add_spending.ensures last) c.add_parts-3.ensures
