use Rattle.std.proofs.Common.{◌≡◌, ◌++◌, ℕ, List, OnOk, Option, Some, subst, ◌∙◌}
use Rattle.std.specs.Prelude.{codes}
use Rattle.message_text.specs.Words.{quoted}
use Rattle.message_words.specs.Usage.{wrong}
use Rattle.message_words.proofs.Told.{joined}
use Rattle.message_words.proofs.usages.add_wrong.Goals as goal

pub returns-in_ok-add_quoted-in-Some : goal.returns-in_ok-add_quoted-in-Some
returns-in_ok-add_quoted-in-Some c =
    let word = quoted c.in-Some.other.now in
    let put : OnOk c.extend-in-Some-2.result (c.extend-in-Some-2.new.self ≡ c.args.text.now ++ wrong c.args.word.now (Some c.in-Some.other.now)) =
    subst (λ (t : List ℕ). OnOk c.extend-in-Some-2.result (c.extend-in-Some-2.new.self ≡ t))
    (joined c.extend-in-Some.new.self word (codes "\n") c.add_quoted-in-Some.new.text c.in_ok-add_quoted-in-Some.ensures
    ∙ joined c.args.text.now (codes "rte: no word is empty or begins with `-`: ") (word ++ codes "\n") c.extend-in-Some.new.self c.in_ok-extend-in-Some.ensures.ok)
    c.extend-in-Some-2.ensures.ok in
    subst (λ (o : Option (List ℕ)). OnOk c.extend-in-Some-2.result (c.extend-in-Some-2.new.self ≡ c.args.text.now ++ wrong c.args.word.now o)) c.in-Some.ensures put
