use Rattle.std.proofs.Common.{◌≡◌, ◌++◌, OnOk, subst, sym}
use Rattle.message_table.specs.Sentences.{name_sentence}
use Rattle.message_table.proofs.sentences.add_name.Goals as goal

pub returns-in-NoName : goal.returns-in-NoName
returns-in-NoName c =
    subst (λ fault. OnOk c.add_told-in-NoName.result (c.add_told-in-NoName.new.text ≡ c.args.text.now ++ name_sentence fault c.args.word.now)) (sym c.in-NoName.is) c.add_told-in-NoName.ensures
