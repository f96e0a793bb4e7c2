use Rattle.std.proofs.Common.{map, ap, ◌∙◌}
use Rattle.syntax_tree.specs.Placed.{placed_decl}
use Rattle.syntax_tree.specs.Parts.{routines}
use Rattle.static_calls.specs.Tables.{seen_routines}
use Rattle.static_calls.proofs.coming_back.way_back.Goals as goal

pub way_among-requires-clause-routines : goal.way_among-requires-clause-routines
way_among-requires-clause-routines c =
    ap seen_routines c.as_slice-3.ensures.value ∙ c.in_ok-list.ensures
    ∙ ap (λ ds. routines (map placed_decl ds)) (c.as_slice.ensures ∙ ap (λ p. p.decls) c.program.ensures)
