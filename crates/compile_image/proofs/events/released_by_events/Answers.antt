use Rattle.std.proofs.Common.{◌≡◌, ◌≤◌, ◌<◌, ◌+◌, ◌∙◌, ◌∷◌, ◌++◌, ap, append-nil, drop, length, sym}
use Rattle.std.proofs.lemmas.List.{drop_all, drop_more}
use Rattle.syntax_tree.specs.Placed.{placed, plain}
use Rattle.code_names.specs.Parts.{seen_processes}
use Rattle.code_names.specs.First.{names_of}
use Rattle.compile_image.specs.Released.{released_events, released_frames}
use Rattle.compile_image.proofs.events.released_by_events.Goals as goal

pub loop-process-preserved : goal.loop-process-preserved
loop-process-preserved c =
    let g = plain (placed c.args.values.now) in
    let items = c.args.processes.now in
    let i = c.loop-process.process-index in
    let rest = drop (i + 1) items in
    let within : i < length items = c.loop-process-test.true in
    let split : c.process-item.result ∷ rest ≡ drop i items = ap (λ p. p ∷ rest) c.process-item.is ∙ sym (drop_more items i c.process-item.result within) in
    record {
      events = c.in-Ok.ensures.events (seen_processes rest) ∙ ap (λ l. names_of c.loop-process.events.items ++ released_events (seen_processes l)) split ∙ c.loop-process.invariant.events;
      frames = c.in-Ok.ensures.frames (seen_processes rest) ∙ ap (λ l. c.loop-process.frames ++ released_frames g (seen_processes l)) split ∙ c.loop-process.invariant.frames;
    }

pub returns : goal.returns
returns c =
    let g = plain (placed c.args.values.now) in
    let items = c.args.processes.now in
    let i = c.loop-process.process-index in
    let all : length items ≤ i = c.loop-process-test.false in
    let names = names_of c.loop-process.events.items in
    let frames = c.loop-process.frames in
    record {
      events = c.in-Ok-new.ensures ∙ sym (append-nil names) ∙ ap (λ l. names ++ released_events (seen_processes l)) (sym (drop_all i items all)) ∙ c.loop-process.invariant.events;
      frames = sym (append-nil frames) ∙ ap (λ l. frames ++ released_frames g (seen_processes l)) (sym (drop_all i items all)) ∙ c.loop-process.invariant.frames;
    }
