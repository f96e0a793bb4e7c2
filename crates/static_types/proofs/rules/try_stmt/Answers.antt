use Rattle.std.proofs.Common.{◌≡◌, ℕ, Option, refl, ap, ◌∙◌}
use Rattle.syntax_tree.specs.declared.place.Place.{Place}
use Rattle.static_rule.specs.declared.violation.Violation.{Violation}
use Rattle.static_rule.specs.Parts.{blame}
use Rattle.static_types.specs.Rules.{statement_rules}
use Rattle.static_types.proofs.rules.try_stmt.Goals as goal

-- one more rule is tried
tried : (number : ℕ) {before known now : Option Violation} {place fails : Option Place} → now ≡ blame before number place → place ≡ fails → before ≡ known → now ≡ blame known number fails
tried number {place = place} {fails = fails} blamed fault same = blamed ∙ ap (λ f. blame f number place) same ∙ ap (blame _ number) fault

pub returns : goal.returns
unfolding statement_rules
returns c =
    let here = c.args.here in
    tried 45 c.blame-8.ensures (c.bad_limit.ensures here)
    (tried 39 c.blame-7.ensures (c.bad_number.ensures here)
    (tried 38 c.blame-6.ensures (c.misdirected.ensures here)
    (tried 34 c.blame-5.ensures c.misplaced.ensures
    (tried 33 c.blame-4.ensures (c.long_loop.ensures here)
    (tried 32 c.blame-3.ensures (c.endless_loop.ensures here)
    (tried 32 c.blame-2.ensures (c.crossed_loop.ensures here)
    (tried 30 c.blame.ensures (c.mistyped.ensures here) refl)))))))
