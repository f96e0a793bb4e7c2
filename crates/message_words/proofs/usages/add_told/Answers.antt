use Rattle.std.proofs.Common.{◌≡◌, ◌++◌, ℕ, List, OnOk, Option, map, subst}
use Rattle.std.specs.Prelude.{string_bytes}
use Rattle.message_words.specs.Usage.{Row, rows, table, told, unknown}
use Rattle.message_words.proofs.Told.{joined}
use Rattle.message_words.proofs.usages.add_told.Goals as goal

pub returns-in_ok-add_unknown-in-None : goal.returns-in_ok-add_unknown-in-None
returns-in_ok-add_unknown-in-None c =
    let put : OnOk c.add_all.result (c.add_all.new.text ≡ c.args.text.now ++ (unknown c.args.word.now ++ table rows)) =
    subst (λ (t : List ℕ). OnOk c.add_all.result (c.add_all.new.text ≡ t))
    (joined c.args.text.now (unknown c.args.word.now) (table rows) c.add_unknown.new.text c.in_ok-add_unknown-in-None.ensures) c.add_all.ensures in
    subst (λ (o : Option Row). OnOk c.add_all.result (c.add_all.new.text ≡ c.args.text.now ++ told (map string_bytes c.args.words.now) c.args.word.now o)) c.in-None.ensures put
