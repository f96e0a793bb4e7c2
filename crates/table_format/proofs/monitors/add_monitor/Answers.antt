use Rattle.std.proofs.Common.{◌∙◌}
use Rattle.std.proofs.lemmas.Result.{on_ok_weaker}
use Rattle.table_format.specs.Parts.{seen}
use Rattle.table_format.proofs.Pieces.{monitor_put}
use Rattle.table_format.proofs.monitors.add_monitor.Goals as goal

pub returns : goal.returns
returns c =
    on_ok_weaker c.add_parts-2.result (λ last. monitor_put c.args.tail.now (seen c.args.stays.now) c.args.name.now _ c.args.text.now _ _ _ (c.as_slice.ensures.value ∙ c.in_ok-all.ensures) c.in_ok-add_parts.ensures c.in_ok-add_entries.ensures last) c.add_parts-2.ensures
