use Rattle.std.proofs.Common.{◌≡◌, ◌≤◌, ◌∙◌, sym, ap, subst, length, map}
use Rattle.std.proofs.lemmas.Result.{IfOk-weaker}
use Rattle.std.specs.Prelude.{filter_map}
use Rattle.syntax_tree.specs.Placed.{placed, placed_decl, plain, plain_decl}
use Rattle.source_semantics.specs.Names.{event_in, monitors, processes}
use Rattle.code_spec.specs.Numbering.{numbered}
use Rattle.compile_image.specs.Rows.{FitAll}
use Rattle.compile_image.specs.Told.{monitors_told, processes_told, routines_told}
use Rattle.compile_image.proofs.parts.parts_by_tables.Goals as goal

pub all_parts-requires : goal.all_parts-requires
all_parts-requires c =
    let g = plain (placed c.args.program.now) in
    let events : c.in-Ok.it ≡ filter_map event_in g.decls = c.in-Ok.ensures ∙ ap (λ ds. filter_map event_in (map plain_decl (map placed_decl ds))) c.as_slice.ensures in
    record {
      over = c.requires.over;
      events = subst (λ es. length es ≤ 64) (sym events) c.requires.fits.few_events;
      fits = subst (λ t. FitAll (plain (placed t)) c.args.code.now c.args.measures.now) (sym c.requires.tables) c.requires.fits;
    }

pub returns : goal.returns
returns c =
    let g = plain (placed c.args.program.now) in
    let is = c.requires.tables in
    let k = c.args.code.now in
    let m = c.args.measures.now in
    let over = c.args.over in
    let events : c.in-Ok.it ≡ filter_map event_in g.decls = c.in-Ok.ensures ∙ ap (λ ds. filter_map event_in (map plain_decl (map placed_decl ds))) c.as_slice.ensures in
    let all = c.all_parts.result in
    record {
      monitors = IfOk-weaker all _ _ (λ parts told. told ∙ ap (λ t. monitors_told (plain (placed t)) 0 (monitors (plain (placed t)))) is) c.all_parts.ensures.monitors;
      routines = IfOk-weaker all _ _ (λ parts told. told ∙ ap (λ t. routines_told (numbered (plain (placed t))) k.routines m.routines) is) c.all_parts.ensures.routines;
      processes = IfOk-weaker all _ _ (λ parts told. told ∙ ap (λ t. processes_told (plain (placed t)) c.in-Ok.it over (processes (plain (placed t))) k.processes m.processes) is
          ∙ ap (λ es. processes_told g es over (processes g) k.processes m.processes) events) c.all_parts.ensures.processes;
    }
