-- The process is read, and stands anew.
use Rattle.std.proofs.Common.{◌∙◌, List, length, arith, refl, ap, sym}
use Rattle.std.specs.Prelude.{ℤ}
use Rattle.vm_state.proofs.Items.{items_are}
use Rattle.std.specs.Vec.{with_item, with_items}
use Rattle.machine_semantics.specs.State.{State}
use Rattle.vm_state.specs.declared.machine_state.MachineState.{MachineState}
use Rattle.vm_turn.proofs.Turning.{keeps, needs, placed, process_is, read_at, stands_anew, turned, words_are}
use Rattle.vm_turn.proofs.turn.turn.Goals as goal

pub index-process-requires : goal.index-process-requires
index-process-requires g c =
    let at = placed g.at.image c.args.plan.now c.args.board.now c.args.who c.args.ticks c.requires.0 c.requires.1.0 c.requires.1.1.1.0 in
    omega (arith, at.process, c.args.plan.now.processes.ok.0)

pub index_mut-cell-requires : goal.index_mut-cell-requires
index_mut-cell-requires g c =
    let at = placed g.at.image c.args.plan.now c.args.board.now c.args.who c.args.ticks c.requires.0 c.requires.1.0 c.requires.1.1.1.0 in
    omega (arith, at.cell, c.args.board.now.cells.ok.0)

pub index_mut-owned-requires : goal.index_mut-owned-requires
index_mut-owned-requires g c =
    let at = placed g.at.image c.args.plan.now c.args.board.now c.args.who c.args.ticks c.requires.0 c.requires.1.0 c.requires.1.1.1.0 in
    omega (arith, at.owned, c.args.board.now.owned.ok.0)

pub pass_cell-requires : goal.pass_cell-requires
pass_cell-requires g c =
    let at = placed g.at.image c.args.plan.now c.args.board.now c.args.who c.args.ticks c.requires.0 c.requires.1.0 c.requires.1.1.1.0 in
    let cell = read_at c.args.board.now.cells.items c.args.who c.index_mut-cell.result.now at.cell c.index_mut-cell.ensures.value in
    let row = read_at c.args.board.now.owned.items c.args.who c.index_mut-owned.result.now at.owned c.index_mut-owned.ensures.value in
    let n = needs g.at c.args.board.now c.args.who c.args.ticks c.index_mut-cell.result.now c.requires.1.0 c.requires.1.1.0 c.requires.1.1.1.0 cell in (
      c.requires.0,
      (
        words_are g.at c.args.board.now c.args.who c.index_mut-owned.result.now c.requires.1.1.0 row ∙ sym c.deref_mut.ensures.value,
        (
          c.requires.1.1.0.shared ∙ ap (λ (s : State). s.shared) c.requires.1.1.0.state ∙ sym c.deref_mut-2.ensures.value,
          (
            c.requires.1.1.0.shared,
            (
              ap (λ (s : State). s.queues) c.requires.1.1.0.state,
              (
                ap (λ (s : State). s.devices) c.requires.1.1.0.state ∙ sym c.deref.ensures.value,
                (
                  sym c.requires.1.0.queues,
                  (n.stands, (n.fits, (n.early, (n.can, c.requires.1.1.1.1)))),
                ),
              ),
            ),
          ),
        ),
      ),
    )

pub returns-clause-turned : goal.returns-clause-turned
returns-clause-turned g c p job at_p at_job =
    let at = placed g.at.image c.args.plan.now c.args.board.now c.args.who c.args.ticks c.requires.0 c.requires.1.0 c.requires.1.1.1.0 in
    let cell = read_at c.args.board.now.cells.items c.args.who c.index_mut-cell.result.now at.cell c.index_mut-cell.ensures.value in
    let known = read_at c.args.plan.now.processes.items c.args.who c.index-process.result.now at.process c.index-process.ensures in
    let row = with_items c.index_mut-owned.result.now c.pass_cell.new.owned in
    let new : MachineState = record { cells = with_item c.args.board.now.cells c.args.who c.pass_cell.new.cell; owned = with_item c.args.board.now.owned c.args.who row; shared = with_items c.args.board.now.shared c.pass_cell.new.shared; queues = c.args.board.now.queues; devices = c.args.board.now.devices } in
    turned g.at c.args.tick c.args.ticks c.args.who c.index-process.result.now c.args.board.now new c.pass_cell.result c.index_mut-cell.result.now c.pass_cell.new.cell c.pass_cell.new.owned c.pass_cell.new.shared p job
    (c.pass_cell.ensures.settles c.args.who) (process_is g.at.image.processes c.args.plan.now.processes.items c.args.who p c.index-process.result.now c.requires.0.processes at_p known) c.requires.1.1.0 at_job cell
    (stands_anew c.args.board.now new c.args.who c.pass_cell.new.cell row c.pass_cell.new.owned c.pass_cell.new.shared refl refl
    (items_are c.index_mut-owned.result.now c.pass_cell.new.owned (omega (arith, c.pass_cell.auto.owned, c.deref_mut.ensures.len, ap (λ (xs : List ℤ). length xs) c.deref_mut.ensures.value)))
    (items_are c.args.board.now.shared c.pass_cell.new.shared (omega (arith, c.pass_cell.auto.shared, ap (λ (xs : List ℤ). length xs) c.deref_mut-2.ensures.value)))
    refl refl)

pub returns-clause-kept : goal.returns-clause-kept
returns-clause-kept g c =
    let at = placed g.at.image c.args.plan.now c.args.board.now c.args.who c.args.ticks c.requires.0 c.requires.1.0 c.requires.1.1.1.0 in
    let row = with_items c.index_mut-owned.result.now c.pass_cell.new.owned in
    let new : MachineState = record { cells = with_item c.args.board.now.cells c.args.who c.pass_cell.new.cell; owned = with_item c.args.board.now.owned c.args.who row; shared = with_items c.args.board.now.shared c.pass_cell.new.shared; queues = c.args.board.now.queues; devices = c.args.board.now.devices } in
    keeps g.at.image c.args.board.now new c.args.who c.index_mut-cell.result.now c.pass_cell.new.cell row c.requires.1.0 at.cell c.index_mut-cell.ensures.value c.pass_cell.ensures.room refl refl refl refl
