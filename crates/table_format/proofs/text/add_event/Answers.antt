use Rattle.std.proofs.lemmas.Result.{on_ok_weaker}
use Rattle.table_format.proofs.Pieces.{event_none, event_put}
use Rattle.table_format.proofs.text.add_event.Goals as goal

pub returns-in-None : goal.returns-in-None
returns-in-None c = event_none c.args.event.now c.args.text.now c.in-None.is

pub returns-in-Some : goal.returns-in-Some
returns-in-Some c = on_ok_weaker c.add_parts.result (λ put. event_put c.args.event.now c.as_bytes.result.now _ c.args.text.now _ c.as_bytes.ensures c.in-Some.is put) c.add_parts.ensures
