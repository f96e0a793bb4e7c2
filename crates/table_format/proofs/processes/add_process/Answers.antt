use Rattle.std.proofs.Common.{◌++◌, [], ◌∙◌, ap, codes, map}
use Rattle.std.proofs.lemmas.Result.{on_ok_weaker}
use Rattle.table_format.specs.Program.{stay_call}
use Rattle.table_format.specs.Parts.{statements_text}
use Rattle.table_format.proofs.Pieces.{process_put}
use Rattle.table_format.proofs.processes.add_process.Goals as goal

pub returns : goal.returns
returns c =
    on_ok_weaker c.add_parts-3.result (λ last. process_put c.args.tail.now c.args.task.now c.ticks_left.result c.args.text.now _ _ _ _ _ _ c.ticks_left.ensures
    (c.in_ok-add_parts.ensures ∙ ap (λ n. c.args.text.now ++ (codes "process " ++ (n ++ []))) c.as_bytes-name.ensures) c.in_ok-add_activation.ensures c.in_ok-add_parts-2.ensures (c.in_ok-add_calls.ensures ∙ ap (λ xs. c.add_parts-2.new.text ++ statements_text (map (stay_call c.args.tail.now) xs)) c.as_slice.ensures) c.in_ok-add_spending.ensures (last ∙ ap (λ n. c.add_spending.new.text ++ (codes "end " ++ (n ++ codes "\n"))) c.as_bytes-name.ensures)) c.add_parts-3.ensures
