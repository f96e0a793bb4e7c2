use Rattle.std.proofs.Common.{◌≡◌, ◌++◌, List, ℕ, append_assoc, ap, ◌∙◌}
use Rattle.std.specs.Prelude.{codes}
use Rattle.std.proofs.lemmas.Result.{on_ok_weaker}
use Rattle.message_text.specs.Words.{quoted}
use Rattle.message_conduct.specs.Sentences.{denied}
use Rattle.message_conduct.specs.Seen.{deed}
use Rattle.message_conduct.proofs.sentences.add_by_function.Goals as goal

more-behind : (text before name behind more : List ℕ) → (text ++ (before ++ (name ++ behind))) ++ more ≡ text ++ (before ++ (name ++ (behind ++ more)))
more-behind text before name behind more = simp append_assoc

pub returns : goal.returns
returns c =
    on_ok_weaker c.add_denied.result
    (λ e. e ∙ ap (λ t. t ++ denied (deed c.args.deed)) c.in_ok-add_among.ensures ∙ more-behind c.args.text.now (codes "the function ") (quoted c.args.own.now) (codes ", being no entry, ") (denied (deed c.args.deed)))
    c.add_denied.ensures
