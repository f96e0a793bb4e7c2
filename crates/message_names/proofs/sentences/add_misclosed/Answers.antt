use Rattle.std.proofs.Common.{◌≡◌, ℕ, List, OnOk, subst}
use Rattle.std.specs.Prelude.{codes}
use Rattle.message_text.specs.Words.{quoted}
use Rattle.message_names.proofs.Joined.{three}
use Rattle.message_names.proofs.sentences.add_misclosed.Goals as goal

pub returns : goal.returns
returns c =
    subst (λ (t : List ℕ). OnOk c.add_quoted-2.result (c.add_quoted-2.new.text ≡ t))
    (three c.args.text.now (quoted c.args.name.now) (codes " closes nothing; wanted is ") (quoted c.args.wanted.now) c.add_quoted.new.text c.extend.new.self
    c.in_ok-add_quoted.ensures c.in_ok-extend.ensures.ok) c.add_quoted-2.ensures
