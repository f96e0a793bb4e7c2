use Rattle.std.proofs.Common.{◌≡◌, ◌++◌, OnOk, subst, sym}
use Rattle.message_table.specs.Sentences.{numeral_sentence}
use Rattle.message_table.proofs.sentences.add_numeral.Goals as goal

pub returns-in-NoNumber : goal.returns-in-NoNumber
returns-in-NoNumber c =
    subst (λ fault. OnOk c.add_told.result (c.add_told.new.text ≡ c.args.text.now ++ numeral_sentence fault c.args.word.now)) (sym c.in-NoNumber.is) c.add_told.ensures

pub returns-in-LeadingZero : goal.returns-in-LeadingZero
returns-in-LeadingZero c =
    subst (λ fault. OnOk c.add_told-in-LeadingZero.result (c.add_told-in-LeadingZero.new.text ≡ c.args.text.now ++ numeral_sentence fault c.args.word.now)) (sym c.in-LeadingZero.is)
    c.add_told-in-LeadingZero.ensures
