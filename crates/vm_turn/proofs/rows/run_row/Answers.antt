-- The process is read, and has run.
use Rattle.std.proofs.Common.{◌∙◌, List, length, arith, refl, ap, sym}
use Rattle.std.specs.Prelude.{ℤ}
use Rattle.std.specs.Vec.{with_item, with_items}
use Rattle.std.proofs.lemmas.Option.{slice_get_within}
use Rattle.vm_state.proofs.Items.{items_are}
use Rattle.vm_state.specs.declared.machine_state.MachineState.{MachineState}
use Rattle.vm_turn.proofs.Rowed.{has_run, safe_row}
use Rattle.vm_turn.proofs.Turning.{keeps, placed_at, read_at, row_is, stands_anew}
use Rattle.vm_turn.proofs.rows.run_row.Goals as goal

pub index_mut-cell-requires : goal.index_mut-cell-requires
index_mut-cell-requires g c =
    let at = placed_at g.image c.args.plan.now c.args.board.now c.args.who c.requires.0 c.requires.1.0 (slice_get_within g.image.processes c.args.who c.requires.1.1.p c.requires.1.1.process) in
    omega (arith, at.cell, c.args.board.now.cells.ok.0)

pub index_mut-owned-requires : goal.index_mut-owned-requires
index_mut-owned-requires g c =
    let at = placed_at g.image c.args.plan.now c.args.board.now c.args.who c.requires.0 c.requires.1.0 (slice_get_within g.image.processes c.args.who c.requires.1.1.p c.requires.1.1.process) in
    omega (arith, at.owned, c.args.board.now.owned.ok.0)

pub run_cell-requires : goal.run_cell-requires
run_cell-requires g c =
    let at = placed_at g.image c.args.plan.now c.args.board.now c.args.who c.requires.0 c.requires.1.0 (slice_get_within g.image.processes c.args.who c.requires.1.1.p c.requires.1.1.process) in
    let cell = read_at c.args.board.now.cells.items c.args.who c.index_mut-cell.result.now at.cell c.index_mut-cell.ensures.value in
    let row = read_at c.args.board.now.owned.items c.args.who c.index_mut-owned.result.now at.owned c.index_mut-owned.ensures.value in
    (c.requires.0, safe_row g.image c.args.board.now c.args.who c.args.budget c.index_mut-cell.result.now _ _ c.requires.1.0 c.requires.1.1 cell (row_is c.args.board.now.owned.items c.args.who c.index_mut-owned.result.now row ∙ sym c.deref_mut.ensures.value) (sym c.deref_mut-2.ensures.value))

pub returns-clause-ran : goal.returns-clause-ran
returns-clause-ran g c job is_ready =
    let at = placed_at g.image c.args.plan.now c.args.board.now c.args.who c.requires.0 c.requires.1.0 (slice_get_within g.image.processes c.args.who c.requires.1.1.p c.requires.1.1.process) in
    let cell = read_at c.args.board.now.cells.items c.args.who c.index_mut-cell.result.now at.cell c.index_mut-cell.ensures.value in
    let words = read_at c.args.board.now.owned.items c.args.who c.index_mut-owned.result.now at.owned c.index_mut-owned.ensures.value in
    let row = with_items c.index_mut-owned.result.now c.run_cell.new.owned in
    let new : MachineState = record { cells = with_item c.args.board.now.cells c.args.who c.run_cell.new.cell; owned = with_item c.args.board.now.owned c.args.who row; shared = with_items c.args.board.now.shared c.run_cell.new.shared; queues = c.args.board.now.queues; devices = c.args.board.now.devices } in
    has_run g.image c.args.board.now new c.args.who c.args.budget c.index_mut-cell.result.now c.run_cell.new.cell c.deref_mut.result.now c.deref_mut-2.result.now c.run_cell.new.owned c.run_cell.new.shared c.run_cell.result job is_ready cell
    (row_is c.args.board.now.owned.items c.args.who c.index_mut-owned.result.now words ∙ sym c.deref_mut.ensures.value) (sym c.deref_mut-2.ensures.value) c.run_cell.ensures.stand c.run_cell.ensures.runs
    (stands_anew c.args.board.now new c.args.who c.run_cell.new.cell row c.run_cell.new.owned c.run_cell.new.shared refl refl
    (items_are c.index_mut-owned.result.now c.run_cell.new.owned (omega (arith, c.run_cell.auto.owned, c.deref_mut.ensures.len, ap (λ (xs : List ℤ). length xs) c.deref_mut.ensures.value)))
    (items_are c.args.board.now.shared c.run_cell.new.shared (omega (arith, c.run_cell.auto.shared, ap (λ (xs : List ℤ). length xs) c.deref_mut-2.ensures.value)))
    refl refl)

pub returns-clause-kept : goal.returns-clause-kept
returns-clause-kept g c =
    let at = placed_at g.image c.args.plan.now c.args.board.now c.args.who c.requires.0 c.requires.1.0 (slice_get_within g.image.processes c.args.who c.requires.1.1.p c.requires.1.1.process) in
    let row = with_items c.index_mut-owned.result.now c.run_cell.new.owned in
    let new : MachineState = record { cells = with_item c.args.board.now.cells c.args.who c.run_cell.new.cell; owned = with_item c.args.board.now.owned c.args.who row; shared = with_items c.args.board.now.shared c.run_cell.new.shared; queues = c.args.board.now.queues; devices = c.args.board.now.devices } in
    keeps g.image c.args.board.now new c.args.who c.index_mut-cell.result.now c.run_cell.new.cell row c.requires.1.0 at.cell c.index_mut-cell.ensures.value c.run_cell.ensures.room refl refl refl refl
