use Rattle.std.proofs.Common.{◌∙◌, ap}
use Rattle.source_semantics.specs.Run.{or_else}
use Rattle.code_spec.specs.Layout.{in_frame, outer_spot}
use Rattle.codegen_spec.specs.Told.{told_area, told_spot}
use Rattle.syntax_tree.specs.Placed.{placed, plain}
use Rattle.code_names.specs.Texts.{owner_of}
use Rattle.code_layout.specs.LayoutTables.{spot_in, table_of}
use Rattle.code_layout.specs.LookupTables.{loop_told, outer_in, told_before}
use Rattle.code_layout.proofs.Meant.{table-spot, outside-told, loops-told}
use Rattle.codegen_texts.specs.Seen.{program_of, scope_of}
use Rattle.codegen_texts.proofs.names.NamesLookup.variable.Goals as goal

pub returns : goal.returns
returns c =
    let g = program_of c.args.self.now in
    let s = scope_of c.args.self.now in
    let x = c.args.name.now in
    let outer = outer_in c.outer-outer.result x in
    let beside = c.outer-outer.ensures x ∙ ap (λ p. told_spot (outer_spot (plain (placed p)) (owner_of c.whose.result) x)) c.shared.ensures ∙ ap (λ o. told_spot (outer_spot g o x)) c.whose.ensures in
    let outside = outside-told g s x (spot_in (table_of (told_area in_frame) s.own) x) outer (table-spot in_frame s.own x) beside in
    c.variable.ensures
    ∙ ap (λ t. loop_told (or_else (spot_in t x) outer) c.args.loops.now x) c.args.self.now.laid
    ∙ loops-told g s c.args.loops.now x (told_before s.own x outer) outside
