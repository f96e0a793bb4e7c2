use Rattle.std.proofs.Common.{◌≡◌, ◌∙◌, ap, subst}
use Rattle.std.specs.Prelude.{slice_get}
use Rattle.syntax_tree.specs.Placed.{placed, plain}
use Rattle.syntax_tree.specs.declared.decl.Program.{Program}
use Rattle.source_semantics.specs.Names.{monitors}
use Rattle.code_spec.specs.Layout.{by_monitor, outer_spot}
use Rattle.codegen_spec.specs.Told.{told_spot}
use Rattle.code_layout.specs.LookupTables.{outer_in}
use Rattle.codegen_texts.proofs.Got.{got-at}
use Rattle.codegen_texts.proofs.Shared.{spot_some, outer-copied, monitor-told}
use Rattle.codegen_texts.proofs.program.ProgramNames.of_monitor.Goals as goal

pub returns : goal.returns
returns c = λ x.
    let P : Program → Type 0 = λ t. outer_in c.get.result x ≡ told_spot (outer_spot (plain (placed t)) (by_monitor c.args.number) x) in
    let g = plain (placed c.self.inside.tables) in
    subst P c.self.view_is
    (outer-copied c.get.result x ∙ ap (λ o. spot_some o x) (got-at c.get.result c.deref.result.now c.args.number c.get.ensures.lookup.3 c.get.ensures.lookup.1)
    ∙ ap (λ l. spot_some (slice_get l c.args.number) x) c.deref.ensures.value
    ∙ ap (λ l. spot_some (slice_get l c.args.number) x) c.self.invariant.monitors_are ∙ monitor-told g 0 (monitors g) c.args.number x)
