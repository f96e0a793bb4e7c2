use Rattle.std.proofs.Common.{◌≡◌, ◌++◌, ◌∷◌, [], false, ℕ, List, map, sym, ap, ◌∙◌, subst}
use Rattle.image.specs.declared.names.ConditionName.{ConditionName}
use Rattle.image_reader.specs.Grammar.{is_again}
use Rattle.image_reader.specs.Taken.{condition_in}
use Rattle.image_reader.proofs.Among.{noted}
use Rattle.image_reader.proofs.taken.EarlierConditions.note.Goals as goal

pub returns : goal.returns
returns c =
    let condition : ConditionName = c.args.condition.now in
    let pairs : List (ℕ × List ℕ) = c.self.inside.pairs.keys in
    let k : ℕ × List ℕ = (condition.mon, c.in_ok-copy.copy) in
    let name_is : c.in_ok-copy.copy ≡ condition.name = c.in_ok-copy.ensures ∙ c.as_bytes.ensures in
    let same : condition_in k ≡ condition = ap (λ (name : List ℕ). condition_in (condition.mon, name)) name_is in
    let new : is_again (map condition_in pairs) (condition_in k) ≡ false =
    subst (λ (x : ConditionName). is_again (map condition_in pairs) x ≡ false) (sym same) (subst (λ (es : List ConditionName). is_again es condition ≡ false) (sym c.self.view_is) c.requires) in
    ap (λ (ps : List (ℕ × List ℕ)). map condition_in ps) c.in_ok-insert_full.ensures.keys ∙ noted pairs k new
    ∙ ap (λ (es : List ConditionName). es ++ condition_in k ∷ []) c.self.view_is ∙ ap (λ (x : ConditionName). c.args.self.now ++ x ∷ []) same
