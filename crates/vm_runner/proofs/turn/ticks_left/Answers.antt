use Rattle.std.proofs.Common.{◌≡◌, ◌≤◌, Option, arith, ap, sym, ◌∙◌}
use Rattle.std.specs.Prelude.{min}
use Rattle.machine_semantics.specs.State.{Thread}
use Rattle.vm_stretch.specs.Stretch.{left}
use Rattle.vm_state.specs.Board.{state_of}
use Rattle.vm_releases.proofs.Joining.{threads_count}
use Rattle.vm_runner.specs.Ends.{lasts_thread}
use Rattle.vm_runner.proofs.Going.{below, fits_left, ready_now, some_left}
use Rattle.vm_runner.proofs.turn.ticks_left.Goals as goal

pub left-requires : goal.left-requires
left-requires g c =
    let can = c.requires in
    let there = below g.course can.goes c.args.tick c.args.who (state_of c.args.board.now) can.begun can.chosen in
    omega (arith, there, threads_count c.args.board.now.cells.items, c.args.board.now.cells.ok.0)

pub returns-clause-fits : goal.returns-clause-fits
returns-clause-fits g c =
    let can = c.requires in
    let r = can.goes.chosen c.args.tick c.args.who can.chosen in
    let ready = ready_now g.course can.goes c.args.tick c.args.who (state_of c.args.board.now) can.begun can.chosen in
    let is : c.left.result ≡ left g.course.image r.job = c.left.ensures g.course.image r.job can.plan ready in
    fits_left g.course.image _ c.args.who (state_of c.args.board.now) r.job ready (omega (arith, is, c.from.ensures, c.min.ensures))

pub returns-clause-some : goal.returns-clause-some
returns-clause-some g c =
    let can = c.requires in
    let r = can.goes.chosen c.args.tick c.args.who can.chosen in
    let ready = ready_now g.course can.goes c.args.tick c.args.who (state_of c.args.board.now) can.begun can.chosen in
    let is : c.left.result ≡ left g.course.image r.job = c.left.ensures g.course.image r.job can.plan ready in
    let some : 1 ≤ left g.course.image r.job = some_left g.course can.goes c.args.tick c.args.who can.chosen in
    let most = can.some in
    omega (arith, is, some, c.from.ensures, c.min.ensures, most)

pub returns-clause-lasts : goal.returns-clause-lasts
returns-clause-lasts g c =
    let can = c.requires in
    let r = can.goes.chosen c.args.tick c.args.who can.chosen in
    let ready = ready_now g.course can.goes c.args.tick c.args.who (state_of c.args.board.now) can.begun can.chosen in
    let is : c.left.result ≡ left g.course.image r.job = c.left.ensures g.course.image r.job can.plan ready in
    let bound : c.min.result ≡ min c.args.most (left g.course.image r.job) = omega (arith, is, c.from.ensures, c.min.ensures) in
    bound ∙ sym (ap (λ (o : Option Thread). lasts_thread g.course.image c.args.most o) ready)
