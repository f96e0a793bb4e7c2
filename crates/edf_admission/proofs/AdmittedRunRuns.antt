-- The run of an admitted image is one that the machine takes, and each of its events has a line.
use Rattle.std.proofs.Common.{arith}
use Rattle.std.specs.Prelude.{All}
use Rattle.edf_semantics.specs.Run.{events}
use Rattle.edf_semantics.specs.Safe.{IsWaitless}
use Rattle.edf_admission.specs.Admitted.{IsAdmitted}
use Rattle.edf_admission.proofs.Premises.{fits, is_waitless}
use Rattle.edf_machine.specs.Runnable.{IsRunnable}
use Rattle.edf_machine.specs.EdfRunnable.{FramesAreShort, WaitlessRunsAreRunnable, WaitlessRunsHaveLines}
use Rattle.edf_semantics.specs.InTime.{MeetsDeadlines}
use Rattle.image.specs.Named.{NamedImage}
use Rattle.event_log.specs.InRange.{AreIn}
use Rattle.machine_semantics.specs.Image.{Script}
use Rattle.vm_law.proofs.There.{all_there}
use Rattle.vm_law.specs.Operands.{AreThere}
use Rattle.machine_semantics.specs.Safe.{ImageFits}
use Rattle.vm_law.specs.Suits.{Suits}
use Rattle.vm_releases.specs.Begin.{script_of}
use Rattle.script.specs.declared.script.Script.{Script as Read}
use Rattle.command_answers.specs.Acts.{CanRunByDeadlines}
use Rattle.image_loaded.specs.Shape.{IsShape}
use Rattle.valid_image_law.proofs.Parts.{no_part, where_in}
use Rattle.valid_image_law.proofs.Processes.{parts_in}
use Rattle.loader.proofs.Order.{HasNoFaultBefore, none_before}
use Rattle.edf_admission.specs.Ready.{CanBeRun}

-- ---- the run

module _ (n : NamedImage) (is : IsShape n) (admitted : IsAdmitted n.image) where
  none : HasNoFaultBefore n.image
  none = none_before n.image is.valid

  fit : ImageFits (where_in n.image no_part) (parts_in n.image)
  fit = fits n.image none is.limits admitted.over admitted.waitless

  still : IsWaitless (where_in n.image no_part) (parts_in n.image)
  still = is_waitless n.image none is.limits admitted.over admitted.waitless

  short : FramesAreShort n.image
  short k p at = (is.limits.processes k p at).frame_high

  there : AreThere n.image
  there = all_there n.image is.limits.owners none.operands none.shape

  pub is_runnable : WaitlessRunsAreRunnable → (script : Script) → Suits n.image script → MeetsDeadlines n.image script → IsRunnable n.image script
  is_runnable law script suits meets =
      let end = suits.end in
      law (where_in n.image no_part) (parts_in n.image) script fit still short meets.no_overrun suits.order (omega (arith, end))

  pub has_lines : WaitlessRunsHaveLines → (script : Script) → Suits n.image script → CanBeRun n → All (AreIn n.names) (events n.image script)
  has_lines law script suits can = law n.names (where_in n.image no_part) (parts_in n.image) script fit still there can.names suits.end

  -- so the machine takes the run, and its log can be put
  pub can_run : WaitlessRunsAreRunnable → WaitlessRunsHaveLines → (script : Read) → Suits n.image (script_of script) → MeetsDeadlines n.image (script_of script) → CanBeRun n → CanRunByDeadlines n script
  can_run runnable_law lines_law script suits meets can = record {
    plan = can.plan;
    runnable = is_runnable runnable_law (script_of script) suits meets;
    lines = has_lines lines_law (script_of script) suits can;
  }
