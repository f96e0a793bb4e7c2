use Rattle.std.proofs.Common.{subst}
use Rattle.image.specs.Named.{NamedImage}
use Rattle.machine_semantics.specs.Image.{Script}
use Rattle.sched_timing.specs.Timed.{IsInTime, RespectsFrames}
use Rattle.valid_image_law.specs.ValidLaw.{IsSafe}
use Rattle.image_loaded.proofs.Runs.{in_time, safe}
use Rattle.image_loaded.proofs.valid_images.Image.runs_are_safe.Goals as goal

pub returns-clause-safe : goal.returns-clause-safe
returns-clause-safe c =
    subst (λ (x : NamedImage). (script : Script) → IsSafe x.image script) c.self.view_is
    (safe c.every_valid_image_is_safe_and_in_time.ensures c.self.inside.image c.self.invariant)

pub returns-clause-in_time : goal.returns-clause-in_time
returns-clause-in_time c =
    subst (λ (x : NamedImage). (script : Script) → RespectsFrames x.image script → IsInTime x.image script) c.self.view_is
    (in_time c.every_valid_image_is_safe_and_in_time.ensures c.self.inside.image c.self.invariant)
