use Rattle.std.specs.Prelude.{slice_get}
use Rattle.machine_semantics.specs.Tick.{owned_of}
use Rattle.vm_state.specs.Board.{state_of}
use Rattle.vm_turn.proofs.turn.pass.Given as goal

abbrev pub ghost-turn : goal.ghost-turn
ghost-turn g a = record { image = g.image; state = state_of a.board.now; owned = owned_of (slice_get (state_of a.board.now).owned a.who); shared = a.board.now.shared.items }

abbrev pub ghost-tell_after : goal.ghost-tell_after
ghost-tell_after g a = g.image
