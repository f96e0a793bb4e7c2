use Rattle.std.proofs.Common.{◌≡◌, ◌++◌, ℕ, List, OnOk, ap, subst, ◌∙◌}
use Rattle.std.specs.Prelude.{codes}
use Rattle.message_words.specs.Usage.{rows, table}
use Rattle.message_words.proofs.Told.{first_told, joined, none_told}
use Rattle.message_words.proofs.usages.add_usage.Goals as goal

pub returns-in_ok-extend-in-empty : goal.returns-in_ok-extend-in-empty
returns-in_ok-extend-in-empty c =
    subst (λ (t : List ℕ). OnOk c.add_all.result (c.add_all.new.text ≡ t))
    (joined c.args.text.now (codes "rte: a command is wanted\n") (table rows) c.extend.new.self c.in_ok-extend-in-empty.ensures.ok
    ∙ ap (λ (t : List ℕ). c.args.text.now ++ t) (none_told c.args.words.now c.in-empty.len_below)) c.add_all.ensures

pub returns-in-len1-up : goal.returns-in-len1-up
returns-in-len1-up c =
    subst (λ (t : List ℕ). OnOk c.add_told.result (c.add_told.new.text ≡ c.args.text.now ++ t))
    (first_told c.args.words.now c.word-item.result c.as_bytes.result.now c.in-len1-up.len_at_least c.word-item.is c.as_bytes.ensures.value) c.add_told.ensures
