use Rattle.std.proofs.Common.{◌≡◌, ◌++◌, ℕ, List, OnOk, subst}
use Rattle.message_words.proofs.Told.{unknown_is}
use Rattle.message_words.proofs.usages.add_unknown.Goals as goal

pub returns : goal.returns
returns c =
    subst (λ (t : List ℕ). OnOk c.add_no_command.result (c.add_no_command.new.text ≡ c.args.text.now ++ t))
    (unknown_is c.args.word.now c.is_help.result _ c.is_help.ensures c.if-is_help.false c.in_ok-near.ensures) c.add_no_command.ensures
