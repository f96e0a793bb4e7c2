use Rattle.std.proofs.Common.{subst, sym}
use Rattle.command_answers.specs.Acts.{CanRunByDeadlines}
use Rattle.image.specs.Named.{NamedImage}
use Rattle.vm_releases.specs.Begin.{script_of}
use Rattle.edf_admission.proofs.AdmittedRunRuns.{can_run}
use Rattle.edf_admission.proofs.edf_image.EdfImage.over.Goals as goal

pub returns-clause-can : goal.returns-clause-can
returns-clause-can c =
    let suits = c.requires.script in
    let meets = c.runs_meet_deadlines.ensures.in_time (script_of c.args.script) suits.frames suits.end in
    subst (λ (n : NamedImage). CanRunByDeadlines n c.args.script) (sym c.into_image.ensures)
    (can_run c.args.self c.is_admitted.ensures.shape c.is_admitted.ensures.admitted c.waitless_runs_are_runnable.ensures c.waitless_runs_have_lines.ensures c.args.script suits meets c.requires.image)
