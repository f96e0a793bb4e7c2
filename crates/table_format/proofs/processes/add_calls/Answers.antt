use Rattle.std.proofs.Common.{◌∙◌, map, drop, ◌∷◌, [], List, length, ◌≤◌, arith, ◌+◌}
use Rattle.table_format.specs.declared.table.TaskStay.{TaskStay}
use Rattle.table_format.specs.Program.{stay_call}
use Rattle.table_format.specs.Parts.{statements_text}
use Rattle.table_format.proofs.Texts.{statements_none, statements_both}
use Rattle.table_format.proofs.Pieces.{call_put}
use Rattle.table_format.proofs.Turns.{turned, ended}
use Rattle.table_format.proofs.processes.add_calls.Goals as goal

pub loop-stay-preserved : goal.loop-stay-preserved
loop-stay-preserved c =
    turned (λ (ys : List TaskStay). statements_text (map (stay_call c.args.tail.now) ys)) c.args.stays.now c.loop-stay.stay-index c.stay-item.result (statements_text (stay_call c.args.tail.now c.stay-item.result ∷ [])) (c.loop-stay.text) (c.add_parts.new.text) _ (statements_both (stay_call c.args.tail.now c.stay-item.result ∷ []) (map (stay_call c.args.tail.now) (drop (c.loop-stay.stay-index + 1) c.args.stays.now))) c.loop-stay-test.true c.stay-item.is
    c.loop-stay.invariant (call_put c.args.tail.now c.stay-item.result c.as_bytes-monitor.result.now c.as_bytes-ticks.result.now c.loop-stay.text c.add_parts.new.text c.as_bytes-monitor.ensures (c.as_bytes-ticks.ensures.value ∙ c.format.ensures.text) c.in_ok-add_parts.ensures)

pub returns : goal.returns
returns c =
    let all : length c.args.stays.now ≤ c.loop-stay.stay-index = omega (arith, c.loop-stay-test.false) in
    ended (λ (ys : List TaskStay). statements_text (map (stay_call c.args.tail.now) ys)) c.args.stays.now c.loop-stay.stay-index (c.loop-stay.text) _ (statements_none) all c.loop-stay.invariant
