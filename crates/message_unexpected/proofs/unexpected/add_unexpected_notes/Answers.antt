use Rattle.std.proofs.lemmas.Result.{on_ok_weaker}
use Rattle.syntax.proofs.LawLemmas.{only_memory}
use Rattle.message_unexpected.proofs.Joined.{of_tokens}
use Rattle.message_unexpected.proofs.unexpected.add_unexpected_notes.Goals as goal

pub returns-in-Ok : goal.returns-in-Ok
returns-in-Ok c =
    on_ok_weaker c.add_notes_behind.result
    (λ put toks listed.
    of_tokens c.args.text.now c.args.place c.in-Ok.tokens.list c.as_slice-all.result.now c.tokens_before-first.result.now toks put.0 c.args.message.now c.add_notes_behind.new.message
    c.as_slice-all.ensures c.tokens_before-first.ensures c.in-Ok.ensures.list listed put.1 put.2) c.add_notes_behind.ensures

pub returns-in-Err : goal.returns-in-Err
returns-in-Err c =
    on_ok_weaker c.put_nothing.result (λ some toks listed. absurd (some (only_memory c.args.text.now toks c.in-Err.fault c.in-Err.ensures.cause listed))) c.put_nothing.ensures
