use Rattle.std.proofs.Common.{◌≡◌, true, false, ℕ, List, refl, sym, ◌∙◌, subst}
use Rattle.image.specs.declared.names.ConditionName.{ConditionName}
use Rattle.image_reader.specs.Grammar.{is_again}
use Rattle.image_reader.specs.Taken.{condition_in}
use Rattle.image_reader.proofs.Among.{again_by_pairs}
use Rattle.image_reader.proofs.taken.EarlierConditions.unless_again.Goals as goal

pub returns-then-contains : goal.returns-then-contains
returns-then-contains c =
    let k : ℕ × List ℕ = (c.args.mon, c.args.name) in
    subst (λ (es : List ConditionName). is_again es (condition_in k) ≡ true) c.self.view_is (sym (again_by_pairs k c.self.inside.pairs.keys) ∙ sym c.contains.ensures ∙ c.if-contains.true)

pub returns : goal.returns
returns c =
    let k : ℕ × List ℕ = (c.args.mon, c.args.name) in
    (refl, subst (λ (es : List ConditionName). is_again es (condition_in k) ≡ false) c.self.view_is (sym (again_by_pairs k c.self.inside.pairs.keys) ∙ sym c.contains.ensures ∙ c.if-contains.false))
