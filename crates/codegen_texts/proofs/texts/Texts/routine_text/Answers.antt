use Rattle.std.proofs.lemmas.Grind.{common_steps}
use Rattle.std.proofs.Common.{ap, arith, ◌<◌, length}
use Rattle.syntax_tree.specs.Placed.{placed, plain}
use Rattle.codegen_texts.specs.Texts.{RoutineText, told_routine}
use Rattle.codegen_texts.proofs.Told.{routine_is, routine_program, routines_inside}
use Rattle.codegen_texts.proofs.texts.Texts.routine_text.Goals as goal

pub returns-clause-routine : goal.returns-clause-routine
returns-clause-routine g c =
    let within = rw (← c.self.view_is) at c.requires in
    rw (← c.self.view_is)
    (λ t at. ap (λ (r : RoutineText). r.routine)
    (routine_is (told_routine g.N.Lookup.program g.N.Lookup.scope) c.self.inside.routines.items (plain (placed c.self.inside.program.now)) c.args.number
    c.index.result.now c.self.invariant.routines_are within c.index.ensures t at))

pub returns-clause-words : goal.returns-clause-words
returns-clause-words g c =
    let within = rw (← c.self.view_is) at c.requires in
    rw (← c.self.view_is)
    (λ t at. ap (λ (r : RoutineText). r.words)
    (routine_is (told_routine g.N.Lookup.program g.N.Lookup.scope) c.self.inside.routines.items (plain (placed c.self.inside.program.now)) c.args.number
    c.index.result.now c.self.invariant.routines_are within c.index.ensures t at))

pub returns-clause-program : goal.returns-clause-program
returns-clause-program g c =
    let within = rw (← c.self.view_is) at c.requires in
    rw (← c.self.view_is)
    (routine_program (told_routine g.N.Lookup.program g.N.Lookup.scope) c.self.inside.routines.items (plain (placed c.self.inside.program.now)) c.args.number
    c.index.result.now c.self.invariant.routines_are within c.index.ensures)

pub returns-clause-scope : goal.returns-clause-scope
returns-clause-scope g c =
    let within = rw (← c.self.view_is) at c.requires in
    rw (← c.self.view_is)
    (λ t at. ap (λ (r : RoutineText). r.scope)
    (routine_is (told_routine g.N.Lookup.program g.N.Lookup.scope) c.self.inside.routines.items (plain (placed c.self.inside.program.now)) c.args.number
    c.index.result.now c.self.invariant.routines_are within c.index.ensures t at))

pub index-requires : goal.index-requires
index-requires g c =
    let inside : c.args.number < length c.self.inside.routines.items =
    routines_inside (told_routine g.N.Lookup.program g.N.Lookup.scope) c.self.inside.routines.items (plain (placed c.self.inside.program.now)) c.args.number
    c.self.invariant.routines_are (rw (← c.self.view_is) at c.requires)
    in
    grind (arith, common_steps)
