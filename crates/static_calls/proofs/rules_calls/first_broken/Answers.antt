use Rattle.std.proofs.Common.{map, ap, ◌∙◌}
use Rattle.syntax_tree.specs.Placed.{placed_decl}
use Rattle.syntax_tree.specs.Parts.{routines, processes}
use Rattle.static_calls.specs.Tables.{seen_routines, seen_processes}
use Rattle.static_calls.proofs.rules_calls.first_broken.Goals as goal

pub first_among-requires-clause-routines : goal.first_among-requires-clause-routines
first_among-requires-clause-routines c =
    ap seen_routines c.as_slice.ensures.value ∙ c.in_ok-list.ensures
    ∙ ap (λ ds. routines (map placed_decl ds)) (c.as_slice-decls.ensures ∙ ap (λ p. p.decls) c.program.ensures)

pub first_among-requires-clause-processes : goal.first_among-requires-clause-processes
first_among-requires-clause-processes c =
    ap seen_processes c.as_slice-2.ensures.value ∙ c.in_ok-processes.ensures
    ∙ ap (λ ds. processes (map placed_decl ds)) (c.as_slice-decls.ensures ∙ ap (λ p. p.decls) c.program.ensures)
