use Rattle.std.proofs.Common.{◌≡◌, ℕ, List, OnOk, subst}
use Rattle.std.specs.Prelude.{codes}
use Rattle.message_text.specs.Words.{quoted}
use Rattle.message_program.proofs.Joined.{joined}
use Rattle.message_program.proofs.sentences.add_unexpected_word.Goals as goal

pub returns : goal.returns
returns c =
    subst (λ (t : List ℕ). OnOk c.add_quoted.result (c.add_quoted.new.text ≡ t))
    (joined c.args.text.now (codes "unexpected ") (quoted c.args.word.now) c.extend.new.self c.in_ok-extend.ensures.ok) c.add_quoted.ensures
