use Rattle.std.proofs.Common.{◌≡◌, ◌<◌, ℕ, Bool, Option, Some, length, arith, ap, sym, ◌∙◌}
use Rattle.std.specs.Prelude.{slice_get}
use Rattle.std.proofs.lemmas.Option.{slice_get-get_or}
use Rattle.base.proofs.Lists.{map_get}
use Rattle.machine_semantics.specs.State.{Thread}
use Rattle.machine_semantics.specs.Tick.{pick}
use Rattle.run_chart.specs.Letters.{is_picked, letter_of}
use Rattle.vm_state.specs.Threads.{thread_of, threads_of}
use Rattle.vm_state.specs.declared.threads.ControlBlock.{ControlBlock}
use Rattle.vm_stretch.specs.Stretch.{place_of}
use Rattle.vm_chart.proofs.letters.letter_on.Goals as goal

pub returns : goal.returns
returns g c =
    let k = c.args.process in
    let cells = c.args.board.now.cells.items in
    let cell = c.index.result.now in
    let picked = place_of (pick g.image (threads_of cells)) in
    let low : k < length cells = omega (arith, c.requires.1, c.args.board.now.cells.ok.0) in
    let at : slice_get cells k ≡ Some cell = slice_get-get_or cells k cell low ∙ ap (λ (x : ControlBlock). Some x) (sym c.index.ensures) in
    c.letter_of.ensures
    ∙ (ap (λ (b : Bool). letter_of (Some (thread_of cell)) b) (c.is_picked.ensures ∙ ap (λ (o : Option ℕ). is_picked o k) c.requires.0)
    ∙ ap (λ (o : Option Thread). letter_of o (is_picked picked k)) (sym (map_get thread_of cells k cell at)))
