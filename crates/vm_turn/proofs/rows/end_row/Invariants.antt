use Rattle.std.specs.Prelude.{slice_get}
use Rattle.machine_semantics.specs.Tick.{owned_of}
use Rattle.vm_state.specs.Board.{state_of}
use Rattle.vm_turn.proofs.rows.end_row.Given as goal

abbrev pub ghost-end_turn : goal.ghost-end_turn
ghost-end_turn g a = record { image = g.image; state = state_of a.board.now; owned = owned_of (slice_get (state_of a.board.now).owned a.who); shared = a.board.now.shared.items }

abbrev pub ghost-tell_after : goal.ghost-tell_after
ghost-tell_after g a = g.image
