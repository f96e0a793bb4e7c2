use Rattle.command_due_law.proofs.Spares.{slack_texts_are_one}
use Rattle.command_due_law.proofs.one_answer.slack_texts_are_one.Goals as goal

pub returns : goal.returns
returns c = slack_texts_are_one
