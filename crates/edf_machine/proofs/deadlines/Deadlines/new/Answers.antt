use Rattle.std.proofs.Common.{List, map, ap, subst, sym}
use Rattle.edf_semantics.specs.Choice.{Mark}
use Rattle.edf_semantics.specs.Run.{Marked, state_at}
use Rattle.edf_machine.specs.Marks.{AreMarks, first_kept}
use Rattle.edf_machine.specs.declared.marks.DeadlineState.{DeadlineState as Kept}
use Rattle.edf_machine.proofs.ByDeadlines.{at_start_is}
use Rattle.edf_machine.proofs.Marking.{first_are}
use Rattle.edf_machine.proofs.deadlines.Deadlines.new.Goals as goal

pub returns : goal.returns
returns c run has =
    let image = run.image in
    let script = run.script in
    let at = at_start_is image script in
    subst (λ (ks : List Kept). AreMarks image ks (state_at image script 0).marks) (sym c.in_ok-first_marks.ensures)
    (subst (λ (ms : List Mark). AreMarks image (map first_kept c.args.deadlines.now) ms) (sym (ap (λ (x : Marked). x.marks) at)) (first_are image c.args.deadlines.now has))
