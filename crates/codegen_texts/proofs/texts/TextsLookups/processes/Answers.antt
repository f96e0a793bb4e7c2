use Rattle.std.proofs.lemmas.Grind.{common_steps}
use Rattle.std.proofs.Common.{◌≡◌, ◌∙◌, arith, length}
use Rattle.syntax_tree.specs.Placed.{placed, plain}
use Rattle.source_semantics.specs.Names.{processes}
use Rattle.codegen_texts.specs.Texts.{process_texts, told_process}
use Rattle.codegen_texts.proofs.Lists.{told_length}
use Rattle.codegen_texts.proofs.Told.{processes_length}
use Rattle.codegen_texts.proofs.texts.TextsLookups.processes.Goals as goal

pub returns : goal.returns
returns g c =
    let p = plain (placed c.self.inside.program.now) in
    let items = c.self.inside.processes.items in
    let long : length items ≡ length (processes p) =
    told_length (told_process g.N.Lookup.program g.N.Lookup.scope) items (process_texts p) c.self.invariant.processes_are ∙ processes_length p
    in
    rw (← c.self.view_is) (grind (arith, common_steps))
