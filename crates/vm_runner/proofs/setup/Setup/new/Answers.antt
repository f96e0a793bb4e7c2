use Rattle.std.proofs.Common.{ℕ, sym, subst}
use Rattle.machine_semantics.specs.Image.{Script}
use Rattle.machine_semantics.specs.State.{State}
use Rattle.vm_stretch.specs.StartLawsDue.{HasDue}
use Rattle.vm_stretch.specs.StretchDue.{AreInOrder}
use Rattle.vm_releases.specs.Begin.{script_of}
use Rattle.vm_state.specs.Board.{state_of}
use Rattle.vm_runner.proofs.setup.Setup.new.Goals as goal

-- requires: plan, script, ranks, order

pub new-requires-2 : goal.new-requires-2
new-requires-2 g c = (c.requires.0, (c.requires.1.1.0, subst (λ (x : Script). AreInOrder x.lines) c.requires.1.0 c.requires.1.1.1))

pub returns : goal.returns
returns g c =
    let begins = c.in_ok-new.ensures g.run.image c.requires.0 in
    let agenda = c.in_ok-new-2.field-0 in
    let e = c.in_ok-new-2.ensures in
    record {
      state = begins.0;
      board = begins.1;
      due = subst (λ (x : Script). HasDue g.run.image x 0 agenda.done (state_of c.in_ok-new.field-0) agenda.slots) (sym c.requires.1.0)
          (subst (λ (d : ℕ). HasDue g.run.image (script_of c.args.script.now) 0 d (state_of c.in_ok-new.field-0) agenda.slots) (sym e.done)
          (subst (λ (s : State). HasDue g.run.image (script_of c.args.script.now) 0 0 s agenda.slots) (sym begins.0) e.due));
      done = e.done;
      order = e.order;
    }
