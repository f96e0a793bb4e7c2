use Rattle.std.proofs.Common.{◌≡◌, ◌∙◌, sym}
use Rattle.syntax_tree.specs.Placed.{placed, plain}
use Rattle.codegen_texts.specs.Texts.{told_routine, routine_texts, told_process, process_texts}
use Rattle.codegen_texts.proofs.Lists.{told_all}
use Rattle.codegen_texts.proofs.Told.{processes_length, routines_length}
use Rattle.codegen_texts.proofs.builder.TextsBuilder.finish.Goals as goal

pub invariant_of-result : goal.invariant_of-result
invariant_of-result g c =
    let routines = rw (← c.self.view_is) at c.requires.routines in
    let processes = rw (← c.self.view_is) at c.requires.processes in
    let p = plain (placed c.self.inside.tables.now) in
    let same : c.program.result.now ≡ c.self.inside.tables.now = c.program.ensures ∙ c.directory.ensures ∙ c.numbering.ensures in
    rw same
    (record {
      routines_are = told_all (told_routine g.N.Lookup.program g.N.Lookup.scope) c.self.inside.routines.items (routine_texts p) c.self.invariant.routines_are (routines ∙ sym (routines_length p));
      processes_are = told_all (told_process g.N.Lookup.program g.N.Lookup.scope) c.self.inside.processes.items (process_texts p) c.self.invariant.processes_are (processes ∙ sym (processes_length p));
    })
