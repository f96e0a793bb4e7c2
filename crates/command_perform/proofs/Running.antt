-- What a run that can be made promises to the machine and to the log.
use Rattle.std.proofs.Common.{◌≡◌, ◌-◌, ◌∙◌, ℕ, List, Some, Result, Ok, Err, arith, ap, sym, subst}
use Rattle.std.specs.Prelude.{All, IfOk}
use Rattle.command_answers.specs.declared.act.RunnableImage.{RunnableImage}
use Rattle.command_answers.specs.declared.act.RunnableImage.TheVariants as by
use Rattle.command_answers.specs.declared.act.PreparedRun.{PreparedRun}
use Rattle.command_answers.specs.Acts.{CanRun, CanRunBy, CanRunByRanks, image_in, log_by, log_due}
use Rattle.base.specs.declared.event.Event.{Event}
use Rattle.image.specs.declared.names.ImageNames.{ImageNames}
use Rattle.image.specs.Named.{NamedImage}
use Rattle.event_log.specs.InRange.{AreIn}
use Rattle.event_log.specs.Line.{log_of}
use Rattle.vm_law.proofs.Ticking.{valid_runs_have_lines}
use Rattle.machine_semantics.specs.Image.{Image, Script}
use Rattle.machine_semantics.specs.Run.{events, events_from, state_at}
use Rattle.vm_run.specs.Coming.{coming, log_to_come}
use Rattle.vm_runner.specs.ByRanks.{by_ranks}
use Rattle.vm_runner.specs.declared.machine.Machine.{Machine}
use Rattle.vm_runner.specs.declared.ranking.Ranking.{Ranking}
use Rattle.vm_runner.specs.Runnable.{IsRunnable}
use Rattle.vm_runner.specs.Standing.{StandsIn}
use Rattle.vm_law.proofs.Runnable.{valid_runs_are_runnable}
use Rattle.vm_releases.specs.Begin.{script_of}
use Rattle.command_perform.specs.Ready.{IsByRanks}
use Rattle.command_perform.proofs.Scripts.{same_script}

-- what is to come at tick 0 is all
all_coming : (image : Image) (script : Script) → coming (by_ranks image script) 0 ≡ events image script
unfolding events state_at
all_coming image script =
    let all : script.end_tick - 0 ≡ script.end_tick = omega arith in
    ap (λ (n : ℕ). events_from image script n 0 (state_at image script 0)) all

coming_first : (image : Image) (script : Script) (t : ℕ) → t ≡ 0 → coming (by_ranks image script) t ≡ events image script
coming_first image script t first = ap (λ (u : ℕ). coming (by_ranks image script) u) first ∙ all_coming image script

module _ (run : PreparedRun) (image : Image) (same : image ≡ (image_in run.image).image) where
  pub is_runnable : CanRunByRanks (image_in run.image) run.script → IsRunnable image (script_of run.script)
  is_runnable can =
      subst (λ (x : Image). IsRunnable x (script_of run.script)) (sym same)
      (valid_runs_are_runnable (image_in run.image).image (script_of run.script) can.limits can.valid can.script.frames can.script.order (let end = can.script.end in omega (arith, end)))

  -- each event that is to come at tick 0 has a line
  pub lines_first : (names : ImageNames) (t : ℕ) → names ≡ (image_in run.image).names → CanRunByRanks (image_in run.image) run.script → t ≡ 0 → All (AreIn names) (coming (by_ranks image (script_of run.script)) t)
  lines_first names t called can first =
      let own : ImageNames = (image_in run.image).names in
      let have : All (AreIn own) (events (image_in run.image).image (script_of run.script)) =
      valid_runs_have_lines own (image_in run.image).image (script_of run.script) can.limits can.valid can.names can.script.end in
      subst (λ (ns : ImageNames). All (AreIn ns) (coming (by_ranks image (script_of run.script)) t)) (sym called)
      (subst (λ (es : List Event). All (AreIn own) es) (sym (coming_first image (script_of run.script) t first))
      (subst (λ (x : Image). All (AreIn own) (events x (script_of run.script))) (sym same) have))

  -- the log that is to come at tick 0 is the one that is due
  pub log_first : (names : ImageNames) (t : ℕ) → names ≡ (image_in run.image).names → run.image ≡ by.Ranks (image_in run.image) → t ≡ 0 → log_to_come (by_ranks image (script_of run.script)) names t ≡ log_due (Some run)
  log_first names t called ranked first =
      ap (λ (ns : ImageNames). log_to_come (by_ranks image (script_of run.script)) ns t) called
      ∙ (ap (λ (es : List Event). log_of (image_in run.image).names es) (coming_first image (script_of run.script) t first)
      ∙ (ap (λ (x : Image). log_of (image_in run.image).names (events x (script_of run.script))) same
      ∙ (ap (λ (script : Script). log_of (image_in run.image).names (events (image_in run.image).image script)) (sym (same_script run.script))
      ∙ ap (λ (i : RunnableImage). log_by i run.script.lines run.script.end) (sym ranked))))

  -- a machine that stands in the run before tick 0 is ready for it
  pub made_by_ranks : {E : Type 0} (made : Result (Machine Ranking) E) → run.image ≡ by.Ranks (image_in run.image) → CanRunByRanks (image_in run.image) run.script
      → IfOk made (λ (m : Machine Ranking). m.tick ≡ 0) → IfOk made (λ (m : Machine Ranking). StandsIn image (script_of run.script) m) → IfOk made (λ (m : Machine Ranking). IsByRanks run m)
  made_by_ranks (Ok m) ranked can start stands = record {
    dispatch = ranked;
    can = can;
    start = start;
    stands = subst (λ (x : Image). StandsIn x (script_of run.script) m) same stands;
  }
  made_by_ranks (Err e) ranked can start stands = tt

-- the run by ranks can be made
pub can_by_ranks : (run : PreparedRun) → run.image ≡ by.Ranks (image_in run.image) → CanRun run → CanRunByRanks (image_in run.image) run.script
can_by_ranks run ranked can = subst (λ (i : RunnableImage). CanRunBy i run.script) ranked can
