-- Its turn, and what is left to do after it.
use Rattle.std.proofs.Common.{List, ℕ, arith, ap, sym, subst, length}
use Rattle.vm_turn.specs.Own.{IsAmong}
use Rattle.vm_turn.proofs.Turning.{room_for}
use Rattle.vm_turn.proofs.turn.pass.Goals as goal

pub tell_after-requires : goal.tell_after-requires
tell_after-requires g c = (
  c.requires.0,
  (
    c.turn-outcome.ensures.kept,
    (
      subst (λ (n : ℕ). IsAmong n c.turn-outcome.result) (ap (λ (qs : List (List ℕ)). length qs) (sym c.turn-outcome.ensures.queues)) c.turn-outcome.ensures.among,
      (
        room_for g.image c.args.plan.now c.args.board.now c.turn-outcome.new.board c.args.who c.args.ticks c.requires.0 c.requires.1.0 c.requires.1.1.0 c.requires.1.1.1.0 c.turn-outcome.ensures.queues _ (omega (arith, c.turn-outcome.ensures.len, c.args.board.now.cells.ok.0)),
        c.requires.1.1.1.1.1,
      ),
    ),
  ),
)
