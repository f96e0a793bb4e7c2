use Rattle.std.proofs.Common.{◌≡◌, ◌+◌, ℕ, List, Some, arith, drop, sym, subst, ap, ◌∙◌}
use Rattle.std.specs.Prelude.{slice_get}
use Rattle.std.proofs.lemmas.Option.{slice_get-get_or}
use Rattle.base.proofs.Lists.{drop_at}
use Rattle.machine_semantics.specs.State.{State}
use Rattle.machine_semantics.specs.Starts.{Started, followed}
use Rattle.vm_state.specs.Board.{state_of}
use Rattle.vm_stretch.specs.Steps.{AreLeft, releases}
use Rattle.vm_stretch.proofs.Leading.{left_calm, left_room}
use Rattle.vm_releases.specs.Begin.{release_at}
use Rattle.vm_releases.proofs.release.release_row.Goals as goal

pub release-requires : goal.release-requires
release-requires g c =
    let row = c.args.row.now in
    let k = c.loop-place.place-index in
    let at : slice_get row k ≡ Some c.from.result = slice_get-get_or row k 0 (omega arith) ∙ ap (λ (n : ℕ). Some n) (sym c.from.ensures) in
    let go : State → Started = releases g.image c.args.tick row in
    let step : State → Started = release_at g.image c.args.tick c.from.result in
    let rest : State → Started = releases g.image c.args.tick (drop (k + 1) row) in
    let left : AreLeft go (state_of c.args.board.now) c.args.fired.now.items (λ (x : State). followed (step x) rest) (state_of c.loop-place.board) c.loop-place.fired.items =
    subst (λ (ks : List ℕ). AreLeft go (state_of c.args.board.now) c.args.fired.now.items (releases g.image c.args.tick ks) (state_of c.loop-place.board) c.loop-place.fired.items) (drop_at row k c.from.result at) c.loop-place.invariant.left in
    let few = left_room go step rest (state_of c.args.board.now) (state_of c.loop-place.board) c.args.fired.now.items c.loop-place.fired.items 64 left c.requires.1.1.1.1 in
    (c.requires.0, (c.loop-place.invariant.board, (c.requires.1.1.0 k c.from.result at, (left_calm go step rest (state_of c.args.board.now) (state_of c.loop-place.board) c.args.fired.now.items c.loop-place.fired.items left c.requires.1.1.1.0, omega (arith, few)))))
