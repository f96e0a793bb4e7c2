use Rattle.std.proofs.Common.{◌≡◌, ◌∙◌, ap, map}
use Rattle.std.proofs.lemmas.Result.{IfOk-weaker}
use Rattle.syntax_tree.specs.Placed.{placed, placed_decl, plain, plain_decl}
use Rattle.source_semantics.specs.Names.{processes}
use Rattle.code_names.specs.Parts.{seen_processes}
use Rattle.compile_image.specs.Released.{events_found, released_events, released_frames}
use Rattle.compile_image.proofs.Frames.{events-named}
use Rattle.compile_image.proofs.names.all_events.Goals as goal

pub returns : goal.returns
returns c =
    let g = plain (placed c.args.program.now) in
    let r = c.in-Ok-released_by_events.it in
    let all : seen_processes c.processes.result.now ≡ processes g = c.processes.ensures ∙ ap (λ t. processes (plain (placed t))) c.requires in
    let events : r.events ≡ released_events (processes g) = c.in-Ok-released_by_events.ensures.events ∙ ap (λ ps. released_events ps) all in
    let frames : r.frames ≡ released_frames g (processes g) =
    c.in-Ok-released_by_events.ensures.frames ∙ ap (λ t. released_frames (plain (placed t)) (seen_processes c.processes.result.now)) c.in-Ok.ensures ∙ ap (λ ps. released_frames g ps) all in
    IfOk-weaker c.event_names.result _ _ (λ named told. told
    ∙ ap (λ ds. events_found r.frames r.events (map plain_decl (map placed_decl ds))) c.as_slice.ensures
    ∙ ap (λ fs. events_found fs r.events g.decls) frames
    ∙ ap (λ es. events_found (released_frames g (processes g)) es g.decls) events
    ∙ events-named g g.decls) c.event_names.ensures
