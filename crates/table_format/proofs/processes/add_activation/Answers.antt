use Rattle.std.proofs.Common.{◌∙◌}
use Rattle.std.proofs.lemmas.Result.{on_ok_weaker}
use Rattle.table_format.proofs.Pieces.{periodic_put, at_event_put}
use Rattle.table_format.proofs.processes.add_activation.Goals as goal

pub returns-in_ok-add_option-in-None : goal.returns-in_ok-add_option-in-None
returns-in_ok-add_option-in-None c =
    on_ok_weaker c.add_option-in-None.result
    (λ last. periodic_put c.args.task.now c.as_bytes-frame.result.now c.args.text.now _ _ _ (c.as_bytes-frame.ensures.value ∙ c.format.ensures.text) c.in-None.is c.in_ok-add_parts-in-None.ensures c.in_ok-add_option-in-None.ensures last)
    c.add_option-in-None.ensures

pub returns-in_ok-add_parts-in-Some : goal.returns-in_ok-add_parts-in-Some
returns-in_ok-add_parts-in-Some c =
    on_ok_weaker c.add_option-in-Some.result
    (λ last. at_event_put c.args.task.now c.as_bytes-event.result.now _ c.as_bytes-frame.result.now c.args.text.now _ _ (c.as_bytes-frame.ensures.value ∙ c.format.ensures.text) c.as_bytes-event.ensures c.in-Some.is c.in_ok-add_parts-in-Some.ensures last)
    c.add_option-in-Some.ensures
