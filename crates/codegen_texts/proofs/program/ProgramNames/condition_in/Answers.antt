use Rattle.std.proofs.Common.{◌≡◌, ◌∙◌, ap, subst, to_z, of_z, w32, rules}
use Rattle.std.proofs.lemmas.Int.{to_z-of_z}
use Rattle.std.specs.Prelude.{pos, slice_get}
use Rattle.syntax_tree.specs.Placed.{placed, plain}
use Rattle.syntax_tree.specs.declared.decl.Program.{Program}
use Rattle.source_semantics.specs.Names.{monitors}
use Rattle.code_spec.specs.Emits.{condition_of}
use Rattle.code_spec.specs.Layout.{by_monitor}
use Rattle.codegen_spec.specs.Told.{fit}
use Rattle.codegen_texts.specs.Shared.{conditions_from, number_among}
use Rattle.codegen_texts.proofs.Shared.{number-told}
use Rattle.codegen_texts.proofs.program.ProgramNames.condition_in.Goals as goal

pub returns : goal.returns
returns c =
    let P : Program → Type 0 = λ t. to_z w32 (of_z w32 c.condition_number.result) ≡ fit (pos (condition_of (plain (placed t)) (by_monitor c.args.number) c.args.name.now)) in
    let ms = monitors (plain (placed c.self.inside.tables)) in
    subst P c.self.view_is
    (to_z-of_z w32 c.condition_number.result (search rules) ∙ c.condition_number.ensures
    ∙ ap (λ l. fit (pos (number_among (slice_get l c.args.number) c.self.inside.shared.conditions.count c.args.name.now))) c.self.invariant.conditions_are
    ∙ ap (λ n. fit (pos (number_among (slice_get (conditions_from 0 ms) c.args.number) n c.args.name.now))) c.self.invariant.count_is
    ∙ ap (λ n. fit (pos n)) (number-told 0 ms c.args.number c.args.name.now))
