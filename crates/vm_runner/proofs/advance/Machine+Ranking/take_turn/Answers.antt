use Rattle.std.proofs.Common.{◌≡◌, ℕ, arith, ap, subst}
use Rattle.machine_semantics.specs.Image.{Script}
use Rattle.vm_runner.specs.Completing.{NoneBetween}
use Rattle.vm_runner.specs.Ends.{IsTurnEnd}
use Rattle.vm_runner.specs.Standing.{events_between}
use Rattle.vm_runner.proofs.advance.Machine+Ranking.take_turn.Goals as goal

-- requires: plan, script, runnable, stands, limit, before

pub finish_turn-requires : goal.finish_turn-requires
finish_turn-requires g c =
    let end : g.run.script.end_tick ≡ c.args.script.now.end = ap (λ (x : Script). x.end_tick) c.requires.1.0 in
    let here = c.begin_turn.ensures.tick in (
      c.requires.0,
      (
        c.requires.1.1.0,
        (c.begin_turn.ensures.begun, (omega (arith, end, c.requires.1.1.1.1.0), omega (arith, here, c.requires.1.1.1.1.1))),
      ),
    )

pub returns-clause-events : goal.returns-clause-events
returns-clause-events g c =
    let u = c.finish_turn.new.self.tick in
    subst (λ (t : ℕ). c.finish_turn.new.self.fired.items ≡ events_between g.run.image g.run.script t u) c.begin_turn.ensures.tick c.finish_turn.ensures.events

pub returns-clause-ends : goal.returns-clause-ends
returns-clause-ends g c =
    let u = c.finish_turn.new.self.tick in
    subst (λ (t : ℕ). IsTurnEnd g.run.image g.run.script c.args.limit t u) c.begin_turn.ensures.tick c.finish_turn.ensures.ends

pub returns-clause-sole : goal.returns-clause-sole
returns-clause-sole g c =
    let u = c.finish_turn.new.self.tick in
    subst (λ (t : ℕ). NoneBetween g.run.image g.run.script t u) c.begin_turn.ensures.tick c.finish_turn.ensures.sole
