use Rattle.std.proofs.Common.{◌++◌, ap, ◌∙◌}
use Rattle.std.proofs.lemmas.Result.{on_ok_weaker}
use Rattle.message_unexpected.specs.Unexpected.{notes_behind}
use Rattle.message_unexpected.proofs.unexpected.add_notes_behind.Goals as goal

pub returns : goal.returns
returns c =
    on_ok_weaker c.add_notes.result
    (λ put. (
      c.in_ok-found.found.items,
      c.in_ok-found.ensures,
      put ∙ ap (λ l. c.args.message.now ++ notes_behind c.args.text.now c.args.line c.args.all.now c.args.first.now l) c.as_slice.ensures.value,
    ))
    c.add_notes.ensures
