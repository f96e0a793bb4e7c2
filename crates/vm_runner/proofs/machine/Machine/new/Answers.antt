use Rattle.std.proofs.Common.{◌∙◌, arith, sym}
use Rattle.vm_runner.proofs.machine.Machine.new.Goals as goal

-- requires: runnable, setup, knows

pub returns-clause-stands : goal.returns-clause-stands
returns-clause-stands g c =
    let goes = c.goes_by_steps.ensures.steps g.run.image g.run.script c.requires.1.0 in
    let is = c.requires.1.1.0 in
    let none = is.done in
    record {
      within = omega arith;
      state = is.state ∙ sym goes.first;
      board = is.board;
      due = is.due;
      done = omega (arith, none);
      order = is.order;
      knows = c.requires.1.1.1;
    }
