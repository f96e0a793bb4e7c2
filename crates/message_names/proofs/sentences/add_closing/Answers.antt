use Rattle.std.proofs.Common.{◌≡◌, ◌++◌, ℕ, List, OnOk, ap, subst, ◌∙◌}
use Rattle.message_names.specs.Told.{misclosed, name_of}
use Rattle.message_names.proofs.sentences.add_closing.Goals as goal

pub returns : goal.returns
returns c =
    subst (λ (w : List ℕ). OnOk c.add_misclosed.result (c.add_misclosed.new.text ≡ c.args.text.now ++ misclosed c.args.mention.now.name.now w))
    (c.name_of-wanted.ensures ∙ ap name_of c.closed.ensures) c.add_misclosed.ensures
