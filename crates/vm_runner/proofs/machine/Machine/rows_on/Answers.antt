use Rattle.std.proofs.Common.{◌++◌, ℕ, List, append_assoc, arith, ap, sym, ◌∙◌}
use Rattle.std.proofs.lemmas.List.{append-nil}
use Rattle.base.specs.declared.event.Event.{Event}
use Rattle.vm_runner.specs.Course.{Course, course, events_between}
use Rattle.vm_runner.proofs.Cut.{cut_at, none_between}
use Rattle.vm_runner.proofs.machine.Machine.rows_on.Goals as goal

-- requires: plan, runnable, stands, limit, within

pub row_on-requires : goal.row_on-requires
row_on-requires g c = λ κs lives. (
  lives,
  (
    c.requires.1.0,
    (c.requires.1.1.0, (c.loop-self.invariant.stands, (c.requires.1.1.1.1.0, (c.goes_on.ensures.before c.loop-self-test.true, (c.goes_on.ensures.calm c.loop-self-test.true, c.goes_on.ensures.room c.loop-self-test.true))))),
  ),
)

pub loop-self-preserved : goal.loop-self-preserved
loop-self-preserved g c =
    let all : Course = course g.D.Dispatch.behaviour g.run.image g.run.script in
    let goes = c.goes_by_steps.ensures.steps g.run.image g.run.script c.requires.1.1.0 in
    let t = c.args.self.now.tick in
    let u = c.loop-self.self.tick in
    let v = c.row_on.new.self.tick in
    let between = λ (a b : ℕ). events_between all a b in
    let before : List Event = c.args.self.now.fired.items in
    record {
      stands = c.row_on.ensures.stands;
      passed = omega (arith, c.loop-self.invariant.passed, c.row_on.ensures.passed);
      within = c.row_on.ensures.within;
      events = c.row_on.ensures.events
          ∙ ap (λ (es : List Event). es ++ between u v) c.loop-self.invariant.events
          ∙ append_assoc before (between t u) (between u v)
          ∙ ap (λ (es : List Event). before ++ es) (sym (cut_at all goes.cut t u v c.loop-self.invariant.passed (omega (arith, c.row_on.ensures.passed))));
    }

pub loop-self-init : goal.loop-self-init
loop-self-init g c =
    let all : Course = course g.D.Dispatch.behaviour g.run.image g.run.script in
    let goes = c.goes_by_steps.ensures.steps g.run.image g.run.script c.requires.1.1.0 in
    let t = c.args.self.now.tick in
    record {
      stands = c.requires.1.1.1.0;
      passed = omega arith;
      within = c.requires.1.1.1.1.1;
      events = sym (append-nil c.args.self.now.fired.items) ∙ ap (λ (es : List Event). c.args.self.now.fired.items ++ es) (sym (none_between all goes.none t));
    }

pub returns-clause-stands : goal.returns-clause-stands
returns-clause-stands g c =
    let is = c.loop-self.invariant.stands in
    record {
      within = is.within;
      state = is.state;
      board = is.board;
      due = is.due;
      done = is.done;
      order = is.order;
      knows = c.goes_by_steps.ensures.rests g.run.image g.run.script c.loop-self.self.tick c.loop-self.self.dispatch is.knows;
    }
