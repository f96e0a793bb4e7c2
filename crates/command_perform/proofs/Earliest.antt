-- What a run under earliest deadline first that can be made promises to the machine and to the log.
use Rattle.std.proofs.Common.{◌≡◌, ◌∙◌, ℕ, List, [], ◌∷◌, Some, Result, Ok, Err, ap, map, refl, sym, subst}
use Rattle.std.specs.Prelude.{All, IfOk}
use Rattle.command_answers.specs.declared.act.RunnableImage.{RunnableImage}
use Rattle.command_answers.specs.declared.act.RunnableImage.TheVariants as by
use Rattle.command_answers.specs.declared.act.PreparedRun.{PreparedRun}
use Rattle.command_answers.specs.Acts.{CanRun, CanRunBy, CanRunByDeadlines, image_in, log_by, log_due}
use Rattle.edf_semantics.specs.Run.{events}
use Rattle.edf_machine.specs.Marks.{HasDeadlines}
use Rattle.edf_machine.specs.declared.deadlines.Deadlines.{Deadlines}
use Rattle.vm_runner.specs.declared.machine.Machine.{Machine}
use Rattle.edf_machine.specs.Runnable.{IsRunnable}
use Rattle.edf_machine.specs.Standing.{StandsIn}
use Rattle.edf_machine.proofs.Rest.{all_is_to_come}
use Rattle.edf_machine.specs.Coming.{coming, log_to_come}
use Rattle.base.specs.declared.event.Event.{Event}
use Rattle.image.specs.declared.names.ImageNames.{ImageNames}
use Rattle.image.specs.Named.{NamedImage}
use Rattle.event_log.specs.InRange.{AreIn}
use Rattle.event_log.specs.Line.{log_of}
use Rattle.machine_semantics.specs.Image.{Image, Process, Script}
use Rattle.vm_releases.specs.Begin.{script_of}
use Rattle.command_perform.specs.Ready.{IsByDeadlines}
use Rattle.command_perform.proofs.Scripts.{same_script}

coming_first : (image : Image) (script : Script) (t : ℕ) → t ≡ 0 → coming image script t ≡ events image script
coming_first image script t first = ap (λ (u : ℕ). coming image script u) first ∙ all_is_to_come image script

module _ (run : PreparedRun) (image : Image) (same : image ≡ (image_in run.image).image) where
  pub is_runnable : CanRunByDeadlines (image_in run.image) run.script → IsRunnable image (script_of run.script)
  is_runnable can = subst (λ (x : Image). IsRunnable x (script_of run.script)) (sym same) can.runnable

  -- each event that is to come at tick 0 has a line
  pub lines_first : (names : ImageNames) (t : ℕ) → names ≡ (image_in run.image).names → CanRunByDeadlines (image_in run.image) run.script → t ≡ 0 → All (AreIn names) (coming image (script_of run.script) t)
  lines_first names t called can first =
      let own : ImageNames = (image_in run.image).names in
      subst (λ (ns : ImageNames). All (AreIn ns) (coming image (script_of run.script) t)) (sym called)
      (subst (λ (es : List Event). All (AreIn own) es) (sym (coming_first image (script_of run.script) t first))
      (subst (λ (x : Image). All (AreIn own) (events x (script_of run.script))) (sym same) can.lines))

  -- the log that is to come at tick 0 is the one that is due
  pub log_first : (names : ImageNames) (t : ℕ) → names ≡ (image_in run.image).names → run.image ≡ by.Deadlines (image_in run.image) → t ≡ 0 → log_to_come image (script_of run.script) names t ≡ log_due (Some run)
  log_first names t called by_deadlines first =
      ap (λ (ns : ImageNames). log_to_come image (script_of run.script) ns t) called
      ∙ (ap (λ (es : List Event). log_of (image_in run.image).names es) (coming_first image (script_of run.script) t first)
      ∙ (ap (λ (x : Image). log_of (image_in run.image).names (events x (script_of run.script))) same
      ∙ (ap (λ (script : Script). log_of (image_in run.image).names (events (image_in run.image).image script)) (sym (same_script run.script))
      ∙ ap (λ (i : RunnableImage). log_by i run.script.lines run.script.end) (sym by_deadlines))))

  -- these are the deadlines of the image
  pub has_deadlines : (n : NamedImage) (deadlines : List ℕ) → n ≡ image_in run.image → deadlines ≡ map (λ (p : Process). p.deadline) n.image.processes → HasDeadlines image deadlines
  has_deadlines n deadlines own taken =
      ap (λ (x : Image). map (λ (p : Process). p.deadline) x.processes) same
      ∙ (ap (λ (x : NamedImage). map (λ (p : Process). p.deadline) x.image.processes) (sym own) ∙ sym taken)

  -- a machine that stands in the run before tick 0 is ready for it
  pub made_by_deadlines : {E : Type 0} (made : Result (Machine Deadlines) E) → run.image ≡ by.Deadlines (image_in run.image) → CanRunByDeadlines (image_in run.image) run.script
      → IfOk made (λ (m : Machine Deadlines). m.tick ≡ 0) → IfOk made (λ (m : Machine Deadlines). StandsIn image (script_of run.script) m) → IfOk made (λ (m : Machine Deadlines). IsByDeadlines run m)
  made_by_deadlines (Ok m) by_deadlines can start stands = record {
    dispatch = by_deadlines;
    can = can;
    start = start;
    stands = subst (λ (x : Image). StandsIn x (script_of run.script) m) same stands;
  }
  made_by_deadlines (Err e) by_deadlines can start stands = tt

-- the run under earliest deadline first can be made
pub can_by_deadlines : (run : PreparedRun) → run.image ≡ by.Deadlines (image_in run.image) → CanRun run → CanRunByDeadlines (image_in run.image) run.script
can_by_deadlines run by_deadlines can = subst (λ (i : RunnableImage). CanRunBy i run.script) by_deadlines can
