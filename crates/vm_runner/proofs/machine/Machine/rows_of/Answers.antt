use Rattle.std.proofs.Common.{◌≡◌, ◌+◌, ◌-◌, ◌∙◌, ◌++◌, ℕ, List, append_assoc, arith, ap, subst, sym}
use Rattle.std.proofs.lemmas.List.{append-nil}
use Rattle.base.specs.declared.event.Event.{Event}
use Rattle.vm_stretch.specs.StretchDue.{NoneBefore}
use Rattle.vm_runner.specs.Course.{Course, course, events_between, started}
use Rattle.vm_runner.proofs.Cut.{cut_at}
use Rattle.vm_runner.proofs.machine.Machine.rows_of.Goals as goal

-- requires: plan, runnable, chosen, some, end, clear

pub loop-goes_on-preserved : goal.loop-goes_on-preserved
loop-goes_on-preserved g c =
    let all : Course = course g.D.Dispatch.behaviour g.run.image g.run.script in
    let goes = c.goes_by_steps.ensures.steps g.run.image g.run.script c.requires.1.1.0 in
    let i = c.loop-goes_on.invariant in
    let on = c.loop-goes_on-test.true in
    let e = c.row_of-goes_on.ensures in
    let t = c.args.self.now.tick in
    let u = c.loop-goes_on.self.tick in
    let v = c.row_of-goes_on.new.self.tick in
    let limit = t + c.args.most in
    let before = i.before on in
    let between = λ (a b : ℕ). events_between all a b in
    let reach : u + (limit - u) ≡ limit = omega (arith, before) in
    let told : (front : List Event) → c.args.self.now.fired.items ≡ front ++ started all t → c.row_of-goes_on.new.self.fired.items ≡ front ++ between t v =
    λ front first.
    e.events (front ++ between t u) (i.told_so_far on front first)
    ∙ append_assoc front (between t u) (between u v)
    ∙ ap (λ (es : List Event). front ++ es) (sym (cut_at all goes.cut t u v i.since (omega (arith, e.passed)))) in
    record {
      goes = e.goes_on;
      before = λ so. (let low = e.before so in omega (arith, low, reach));
      clear = λ so. subst (λ (w : ℕ). NoneBefore w c.row_of-goes_on.new.self.agenda.slots) reach (e.clear so);
      told_so_far = λ so front first. told front first ∙ sym (append-nil (front ++ between t v)) ∙ ap (λ (es : List Event). (front ++ between t v) ++ es) (sym (e.none so));
      within = omega (arith, e.within, reach);
      since = omega (arith, i.since, e.passed);
      stands = e.stands;
      passed = λ over. omega (arith, i.since, e.passed);
      told = λ over front first. told front first;
    }
