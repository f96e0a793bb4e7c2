use Rattle.std.proofs.Common.{◌≡◌, ◌∙◌, ap, subst, to_z, of_z, w64, rules}
use Rattle.std.proofs.lemmas.Int.{to_z-of_z}
use Rattle.source_semantics.specs.Names.{constants, value_among}
use Rattle.syntax_tree.specs.Placed.{placed, plain}
use Rattle.syntax_tree.specs.declared.decl.Program.{Program}
use Rattle.static_declarations.specs.Seen.{kept_worth}
use Rattle.static_declarations.proofs.Tables.{worth-value}
use Rattle.code_layout.proofs.values.ConstantValues.constant.Goals as goal

pub returns-clause-exact : goal.returns-clause-exact
returns-clause-exact c =
    let P : Program → Type 0 = λ t. to_z w64 (of_z w64 c.get.result) ≡ value_among (constants (plain (placed t))) c.args.name.now in
    subst P c.self.view_is
    (to_z-of_z w64 c.get.result (search rules) ∙ c.get.ensures ∙ c.named.ensures ∙ ap (λ n. kept_worth c.self.inside.kept.entries n) c.as_bytes.ensures ∙ ap (λ w. w c.args.name.now) c.self.invariant.values_are ∙ worth-value (plain (placed c.self.inside.program.now)) c.args.name.now)
