use Rattle.message_program.proofs.Joined.{notes_told}
use Rattle.message_program.proofs.grammar.grammar_message.Goals as goal

pub returns : goal.returns
returns c =
    λ toks listed. notes_told c.args.file.now c.args.text.now c.args.place toks c.in_ok-message.message c.add_unexpected_notes.new.message c.in_ok-message.ensures (c.in_ok-add_unexpected_notes.ensures toks listed)
