use Rattle.std.proofs.lemmas.Grind.{common_steps}
use Rattle.std.proofs.Common.{ap, arith, ◌<◌, length}
use Rattle.syntax_tree.specs.Placed.{placed, plain}
use Rattle.codegen_texts.specs.Texts.{ProcessText, told_process}
use Rattle.codegen_texts.proofs.Told.{process_is, process_program, processes_inside}
use Rattle.codegen_texts.proofs.texts.Texts.process_text.Goals as goal

pub returns-clause-process : goal.returns-clause-process
returns-clause-process g c =
    let within = rw (← c.self.view_is) at c.requires in
    rw (← c.self.view_is)
    (λ t at. ap (λ (r : ProcessText). r.process)
    (process_is (told_process g.N.Lookup.program g.N.Lookup.scope) c.self.inside.processes.items (plain (placed c.self.inside.program.now)) c.args.number
    c.index.result.now c.self.invariant.processes_are within c.index.ensures t at))

pub returns-clause-program : goal.returns-clause-program
returns-clause-program g c =
    let within = rw (← c.self.view_is) at c.requires in
    rw (← c.self.view_is)
    (process_program (told_process g.N.Lookup.program g.N.Lookup.scope) c.self.inside.processes.items (plain (placed c.self.inside.program.now)) c.args.number
    c.index.result.now c.self.invariant.processes_are within c.index.ensures)

pub returns-clause-scope : goal.returns-clause-scope
returns-clause-scope g c =
    let within = rw (← c.self.view_is) at c.requires in
    rw (← c.self.view_is)
    (λ t at. ap (λ (r : ProcessText). r.scope)
    (process_is (told_process g.N.Lookup.program g.N.Lookup.scope) c.self.inside.processes.items (plain (placed c.self.inside.program.now)) c.args.number
    c.index.result.now c.self.invariant.processes_are within c.index.ensures t at))

pub index-requires : goal.index-requires
index-requires g c =
    let inside : c.args.number < length c.self.inside.processes.items =
    processes_inside (told_process g.N.Lookup.program g.N.Lookup.scope) c.self.inside.processes.items (plain (placed c.self.inside.program.now)) c.args.number
    c.self.invariant.processes_are (rw (← c.self.view_is) at c.requires)
    in
    grind (arith, common_steps)
