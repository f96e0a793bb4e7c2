use Rattle.std.proofs.Common.{◌≤◌, subst}
use Rattle.image.specs.Named.{NamedImage}
use Rattle.machine_semantics.specs.Image.{Script}
use Rattle.sched_timing.specs.Timed.{RespectsFrames}
use Rattle.edf_semantics.specs.InTime.{MeetsDeadlines}
use Rattle.edf_admission.specs.Runs.{IsEdfSafe}
use Rattle.edf_admission.proofs.edf_image.EdfImage.runs_meet_deadlines.Goals as goal

pub returns-clause-safe : goal.returns-clause-safe
returns-clause-safe c =
    subst (λ (x : NamedImage). (script : Script) → IsEdfSafe x.image script) c.self.view_is
    (c.every_admitted_shape_meets_deadlines.ensures c.self.inside.image c.self.invariant.0 c.self.invariant.1).0

pub returns-clause-in_time : goal.returns-clause-in_time
returns-clause-in_time c =
    subst (λ (x : NamedImage). (script : Script) → RespectsFrames x.image script → script.end_tick ≤ 1000000000 → MeetsDeadlines x.image script) c.self.view_is
    (c.every_admitted_shape_meets_deadlines.ensures c.self.inside.image c.self.invariant.0 c.self.invariant.1).1
