use Rattle.std.proofs.Common.{◌≡◌, ◌++◌, ℕ, List, OnOk, subst}
use Rattle.message_words.proofs.Finds.{explained_is}
use Rattle.message_words.proofs.tables.add_explained.Goals as goal

pub returns : goal.returns
returns c =
    subst (λ (told : List ℕ). OnOk c.add_if.result (c.add_if.new.text ≡ c.args.text.now ++ told))
    (explained_is c.args.rows.now c.args.sign.now c.args.told.now c.has_sign.result c.has_sign.ensures) c.add_if.ensures
