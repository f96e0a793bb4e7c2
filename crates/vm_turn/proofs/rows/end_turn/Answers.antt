-- The process is read, and stands anew.
use Rattle.std.proofs.Common.{◌∙◌, arith, refl, ap, sym}
use Rattle.std.specs.Vec.{with_item}
use Rattle.std.proofs.lemmas.Option.{slice_get_within}
use Rattle.machine_semantics.specs.State.{State}
use Rattle.vm_state.specs.declared.machine_state.MachineState.{MachineState}
use Rattle.vm_turn.proofs.Rowed.{ended, keeps_end, needs_end}
use Rattle.vm_turn.proofs.Turning.{placed_at, process_is, read_at}
use Rattle.vm_turn.proofs.rows.end_turn.Goals as goal

pub index-process-requires : goal.index-process-requires
index-process-requires g c =
    let at = placed_at g.at.image c.args.plan.now c.args.board.now c.args.who c.requires.0 c.requires.1.0 (slice_get_within g.at.image.processes c.args.who c.requires.1.1.1.0.p c.requires.1.1.1.0.process) in
    omega (arith, at.process, c.args.plan.now.processes.ok.0)

pub index_mut-cell-requires : goal.index_mut-cell-requires
index_mut-cell-requires g c =
    let at = placed_at g.at.image c.args.plan.now c.args.board.now c.args.who c.requires.0 c.requires.1.0 (slice_get_within g.at.image.processes c.args.who c.requires.1.1.1.0.p c.requires.1.1.1.0.process) in
    omega (arith, at.cell, c.args.board.now.cells.ok.0)

pub end_cell-requires : goal.end_cell-requires
end_cell-requires g c =
    let at = placed_at g.at.image c.args.plan.now c.args.board.now c.args.who c.requires.0 c.requires.1.0 (slice_get_within g.at.image.processes c.args.who c.requires.1.1.1.0.p c.requires.1.1.1.0.process) in
    let cell = read_at c.args.board.now.cells.items c.args.who c.index_mut-cell.result.now at.cell c.index_mut-cell.ensures.value in
    let n = needs_end g.at c.args.board.now c.args.who c.args.halt c.index_mut-cell.result.now c.requires.1.0 c.requires.1.1.0 c.requires.1.1.1.0 cell in (
      c.requires.0,
      (
        ap (λ (s : State). s.queues) c.requires.1.1.0.state,
        (
          ap (λ (s : State). s.devices) c.requires.1.1.0.state ∙ sym c.deref.ensures.value,
          (
            sym c.requires.1.0.queues,
            (n.stands, (n.seen, (n.can, c.requires.1.1.1.1))),
          ),
        ),
      ),
    )

pub returns-clause-ended : goal.returns-clause-ended
returns-clause-ended g c p job at_p at_job =
    let at = placed_at g.at.image c.args.plan.now c.args.board.now c.args.who c.requires.0 c.requires.1.0 (slice_get_within g.at.image.processes c.args.who c.requires.1.1.1.0.p c.requires.1.1.1.0.process) in
    let cell = read_at c.args.board.now.cells.items c.args.who c.index_mut-cell.result.now at.cell c.index_mut-cell.ensures.value in
    let new : MachineState = record { cells = with_item c.args.board.now.cells c.args.who c.end_cell.new.cell; owned = c.args.board.now.owned; shared = c.args.board.now.shared; queues = c.args.board.now.queues; devices = c.args.board.now.devices } in
    let known = read_at c.args.plan.now.processes.items c.args.who c.index-process.result.now at.process c.index-process.ensures in
    ended g.at c.args.tick c.args.who c.index-process.result.now c.args.board.now new c.args.halt c.end_cell.result c.index_mut-cell.result.now c.end_cell.new.cell p job
    (c.end_cell.ensures.ends c.args.who) (process_is g.at.image.processes c.args.plan.now.processes.items c.args.who p c.index-process.result.now c.requires.0.processes at_p known) c.requires.1.1.0 at_job cell refl refl refl refl refl

pub returns-clause-kept : goal.returns-clause-kept
returns-clause-kept g c =
    let at = placed_at g.at.image c.args.plan.now c.args.board.now c.args.who c.requires.0 c.requires.1.0 (slice_get_within g.at.image.processes c.args.who c.requires.1.1.1.0.p c.requires.1.1.1.0.process) in
    let new : MachineState = record { cells = with_item c.args.board.now.cells c.args.who c.end_cell.new.cell; owned = c.args.board.now.owned; shared = c.args.board.now.shared; queues = c.args.board.now.queues; devices = c.args.board.now.devices } in
    keeps_end g.at.image c.args.board.now new c.args.who c.index_mut-cell.result.now c.end_cell.new.cell c.requires.1.0 at.cell c.index_mut-cell.ensures.value c.end_cell.ensures.room refl refl refl refl
