use Rattle.std.proofs.Common.{◌≡◌, ◌∙◌, ap, subst, to_z, of_z, w64, rules}
use Rattle.std.proofs.lemmas.Int.{to_z-of_z}
use Rattle.syntax_tree.specs.Placed.{placed, placed_constant, plain, plain_constant}
use Rattle.syntax_tree.specs.declared.decl.Program.{Program}
use Rattle.static_declarations.specs.Values.{value}
use Rattle.static_declarations.specs.Seen.{amount}
use Rattle.static_declarations.proofs.Tables.{amount-value}
use Rattle.static_declarations.proofs.declarations.Declarations.value.Goals as goal

pub returns-clause-exact : goal.returns-clause-exact
returns-clause-exact c =
    let P : Program → Type 0 = λ t. to_z w64 (of_z w64 c.get.result) ≡ value (placed t) (placed_constant c.args.constant.now) in
    let constant = plain_constant (placed_constant c.args.constant.now) in
    subst P c.self.view_is
    (to_z-of_z w64 c.get.result (search rules) ∙ c.get.ensures ∙ c.value_of.ensures ∙ ap (λ w. amount w constant) c.self.invariant.values_are ∙ amount-value (plain (placed c.self.inside.named.now)) constant)
