-- Runs of an admitted shape.
use Rattle.std.proofs.Common.{◌≤◌, ℕ, List, subst}
use Rattle.machine_semantics.specs.Image.{Script}
use Rattle.image.specs.Named.{NamedImage}
use Rattle.machine_semantics.specs.Safe.{ImageFits}
use Rattle.sched_timing.specs.Timed.{RespectsFrames}
use Rattle.image_loaded.specs.Shape.{IsShape}
use Rattle.valid_image.specs.Tasks.{process_at}
use Rattle.valid_image_law.proofs.Parts.{no_part, where_in}
use Rattle.valid_image_law.proofs.Processes.{parts_in}
use Rattle.loader.proofs.Order.{HasNoFaultBefore, none_before}
use Rattle.sched_demand.specs.declared.tasks.DemandTask.{DemandTask}
use Rattle.sched_demand.specs.declared.judging.Judgement.TheVariants as verdict
use Rattle.sched_demand.specs.Demand.{IsJudged, IsReach}
use Rattle.sched_demand.proofs.Rising.{one_reach}
use Rattle.edf_semantics.specs.Safe.{IsWaitless}
use Rattle.edf_semantics.proofs.Keeping.{every_run_is_safe, run_keeps_words}
use Rattle.edf_semantics.specs.InTime.{IsJudgedFeasible, MeetsDeadlines}
use Rattle.edf_semantics.proofs.Meeting.{every_run_meets_deadlines}
use Rattle.edf_admission.specs.Admitted.{IsAdmitted}
use Rattle.edf_admission.specs.Runs.{EveryAdmittedShapeMeetsDeadlines, IsEdfSafe}
use Rattle.edf_admission.proofs.Premises.{are_demands, fits, is_waitless}

judged_once : (ts : List DemandTask) (reach count : ℕ) → IsReach ts reach → IsJudged ts reach (verdict.Feasible count) → IsJudgedFeasible ts count
judged_once ts reach count is judged other is_other = subst (λ (r : ℕ). IsJudged ts r (verdict.Feasible count)) (one_reach ts reach other is is_other) judged

module _ (shape : NamedImage) (is : IsShape shape) (admitted : IsAdmitted shape.image) where
  none : HasNoFaultBefore shape.image
  none = none_before shape.image is.valid

  fit : ImageFits (where_in shape.image no_part) (parts_in shape.image)
  fit = fits shape.image none is.limits admitted.over admitted.waitless

  still : IsWaitless (where_in shape.image no_part) (parts_in shape.image)
  still = is_waitless shape.image none is.limits admitted.over admitted.waitless

  pub is_safe : (script : Script) → IsEdfSafe shape.image script
  is_safe script = record {
    never_stuck = λ t. (every_run_is_safe (where_in shape.image no_part) (parts_in shape.image) script t fit still).0;
    stacks = λ t k p thread at there. (every_run_is_safe (where_in shape.image no_part) (parts_in shape.image) script t fit still).1 k p thread at there;
    words = λ t. run_keeps_words (where_in shape.image no_part) (parts_in shape.image) script t fit still;
    apart = λ t. (every_run_is_safe (where_in shape.image no_part) (parts_in shape.image) script t fit still).2;
    ready = λ t. (every_run_is_safe (where_in shape.image no_part) (parts_in shape.image) script t fit still).3;
  }

  pub is_in_time : (script : Script) → RespectsFrames shape.image script → script.end_tick ≤ 1000000000 → MeetsDeadlines shape.image script
  is_in_time script frames short =
      let asked = admitted.feasible in
      every_run_meets_deadlines (where_in shape.image no_part) (parts_in shape.image) script asked.tasks (process_at shape.image) admitted.points fit still
      (are_demands shape.image none is.limits admitted.over admitted.waitless asked.tasks asked.demands asked.valid) (judged_once asked.tasks asked.reach admitted.points asked.is_reach asked.judged) frames short

pub every_admitted_shape_meets_deadlines : EveryAdmittedShapeMeetsDeadlines
every_admitted_shape_meets_deadlines shape is admitted = (λ script. is_safe shape is admitted script, λ script frames short. is_in_time shape is admitted script frames short)
