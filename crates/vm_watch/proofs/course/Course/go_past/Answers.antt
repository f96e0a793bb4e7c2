use Rattle.std.proofs.Common.{◌≡◌, Option, true, sym, subst}
use Rattle.vm_releases.specs.Begin.{script_of}
use Rattle.vm_stretch.specs.declared.completed.Completed.{Completed}
use Rattle.vm_watch.proofs.Stopping.{IsAt, goes_on, none_but_last, stops}
use Rattle.vm_watch.proofs.course.Course.go_past.Goals as goal

pub returns-then-is_at-clause-stop : goal.returns-then-is_at-clause-stop
returns-then-is_at-clause-stop g c =
    let script = script_of c.args.script.now in
    let turn = c.turn-completed.ensures in
    stops g.image script c.args.address c.turn-completed.new.self.machine.tick turn.follows.stands.within
    (subst (λ (o : Option Completed). IsAt c.args.address o) turn.last (c.is_at.ensures.0 c.if-is_at.true))
    (none_but_last g.image script c.args.address c.loop-self.self.machine.tick c.turn-completed.new.self.machine.tick turn.sole c.loop-self.invariant.none)

pub loop-self-preserved : goal.loop-self-preserved
loop-self-preserved g c =
    let script = script_of c.args.script.now in
    let turn = c.turn-completed.ensures in
    record {
      follows = turn.follows;
      end = c.loop-self.invariant.end;
      none =
          goes_on g.image script c.args.address c.turn-completed.new.self.machine.tick
          (λ at. (
          let yes : c.is_at.result ≡ true = c.is_at.ensures.1 (subst (λ (o : Option Completed). IsAt c.args.address o) (sym turn.last) at) in
          let no = c.if-is_at.false in
          absurd cc
          ))
          (none_but_last g.image script c.args.address c.loop-self.self.machine.tick c.turn-completed.new.self.machine.tick turn.sole c.loop-self.invariant.none);
    }
