use Rattle.std.proofs.lemmas.Result.{on_ok_weaker}
use Rattle.message_unexpected.proofs.Joined.{put_together}
use Rattle.message_unexpected.proofs.unexpected.add_notes.Goals as goal

pub returns : goal.returns
returns c =
    on_ok_weaker c.add_remark_note.result
    (λ put.
    put_together c.args.text.now c.args.line c.args.all.now c.args.first.now c.args.found.now c.token_at-word.result c.token_at-behind.result c.args.message.now c.add_expected_note.new.message
    c.add_before.new.message c.add_open_note.new.message c.add_remark_note.new.message c.token_at-word.ensures c.token_at-behind.ensures c.in_ok-add_expected_note.ensures
    c.in_ok-add_before.ensures c.in_ok-add_open_note.ensures put) c.add_remark_note.ensures
