use Rattle.std.proofs.Common.{◌≡◌, ◌∙◌, ℕ, List, Option, None, Some, arith, ap, subst, sym}
use Rattle.std.proofs.lemmas.Option.{slice_get_within}
use Rattle.machine_semantics.specs.State.{State}
use Rattle.edf_semantics.specs.Choice as ch
use Rattle.edf_semantics.specs.Choice.{Mark}
use Rattle.edf_semantics.specs.Run.{begin_some}
use Rattle.edf_semantics.specs.Turn.{chosen, marked}
use Rattle.edf_machine.specs.Marks.{AreMarks}
use Rattle.edf_machine.specs.declared.marks.DeadlineState.{DeadlineState as Kept}
use Rattle.edf_machine.proofs.ByDeadlines.{marks_after, there}
use Rattle.edf_machine.proofs.deadlines.DeadlinesDispatch.choose.Goals as goal

pub returns-in_err-who-clause-row : goal.returns-in_err-who-clause-row
returns-in_err-who-clause-row c at it can n step =
    let ms : List Mark = marked at.image at.script at.tick in
    let marks = subst (λ (ks : List Kept). AreMarks at.image ks ms) (sym c.as_slice.ensures.value) it.sees.knows in
    let none : None ≡ chosen at.image at.script at.tick = c.in_err-who.ensures at.image ms it.plan it.sees.board marks ∙ ap (λ (s : State). ch.choose at.image s.threads ms) it.sees.state in
    subst (λ (xs : List Mark). AreMarks at.image c.args.self.now.marks.items xs)
    (sym (marks_after at.image at.script can.safe at.tick n step ∙ sym (ap (λ (o : Option ℕ). begin_some o ms) none))) it.sees.knows

pub returns-in_err-who-clause-idle : goal.returns-in_err-who-clause-idle
returns-in_err-who-clause-idle c at it can none n step same = returns-in_err-who-clause-row c at it can n step

pub mark_begun-requires : goal.mark_begun-requires
mark_begun-requires c =
    let at = c.requires.sees.0 in
    let it = c.requires.sees.1 in
    let ms : List Mark = marked at.image at.script at.tick in
    let marks = subst (λ (ks : List Kept). AreMarks at.image ks ms) (sym c.as_slice.ensures.value) it.sees.knows in
    let some : Some c.in_ok-who.who ≡ chosen at.image at.script at.tick = c.in_ok-who.ensures at.image ms it.plan it.sees.board marks ∙ ap (λ (s : State). ch.choose at.image s.threads ms) it.sees.state in
    let r = there at.image at.script at.tick c.in_ok-who.who (sym some) in
    let below = slice_get_within at.image.processes c.in_ok-who.who r.p r.process in
    let many = it.sees.knows.many in
    omega (arith, below, many)

pub returns-clause-row : goal.returns-clause-row
returns-clause-row c at it can n step =
    let ms : List Mark = marked at.image at.script at.tick in
    let marks = subst (λ (ks : List Kept). AreMarks at.image ks ms) (sym c.as_slice.ensures.value) it.sees.knows in
    let some : Some c.in_ok-who.who ≡ chosen at.image at.script at.tick = c.in_ok-who.ensures at.image ms it.plan it.sees.board marks ∙ ap (λ (s : State). ch.choose at.image s.threads ms) it.sees.state in
    subst (λ (xs : List Mark). AreMarks at.image c.mark_begun.new.marks.items xs)
    (sym (marks_after at.image at.script can.safe at.tick n step ∙ sym (ap (λ (o : Option ℕ). begin_some o ms) some))) (c.mark_begun.ensures at.image ms it.sees.knows)
