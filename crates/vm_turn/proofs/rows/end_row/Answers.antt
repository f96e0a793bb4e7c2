-- Its end, and what is left to do after it.
use Rattle.std.proofs.Common.{List, ℕ, arith, ap, sym, subst, length}
use Rattle.vm_turn.specs.Own.{IsAmong}
use Rattle.vm_turn.proofs.Turning.{room_while}
use Rattle.vm_turn.proofs.rows.end_row.Goals as goal

pub tell_after-requires : goal.tell_after-requires
tell_after-requires g c = (
  c.requires.0,
  (
    c.end_turn-outcome.ensures.kept,
    (
      subst (λ (n : ℕ). IsAmong n c.end_turn-outcome.result) (ap (λ (qs : List (List ℕ)). length qs) (sym c.end_turn-outcome.ensures.queues)) c.end_turn-outcome.ensures.among,
      (
        room_while g.image c.args.plan.now c.args.board.now c.end_turn-outcome.new.board c.args.who c.requires.1.1.1.0.job c.requires.0 c.requires.1.0 c.requires.1.1.0 c.requires.1.1.1.0.ready c.end_turn-outcome.ensures.queues _ (omega (arith, c.end_turn-outcome.ensures.len, c.args.board.now.cells.ok.0)),
        c.requires.1.1.1.1.1,
      ),
    ),
  ),
)
