use Rattle.std.proofs.Common.{◌≡◌, ◌++◌, ℕ, List, OnOk, subst, ◌∙◌}
use Rattle.std.specs.Prelude.{codes}
use Rattle.message_table.specs.Parts.{choice}
use Rattle.message_table.proofs.Joined.{joined}
use Rattle.message_table.proofs.sentences.add_wanted.Goals as goal

pub returns : goal.returns
returns c =
    subst (λ (t : List ℕ). OnOk c.extend-2.result (c.extend-2.new.self ≡ t))
    (joined c.extend.new.self (choice c.args.part) (codes " is wanted") c.add_choice.new.text c.in_ok-add_choice.ensures
    ∙ joined c.args.text.now (codes " stands where ") (choice c.args.part ++ codes " is wanted") c.extend.new.self c.in_ok-extend.ensures.ok)
    c.extend-2.ensures.ok
