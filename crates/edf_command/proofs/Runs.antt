-- The run of a program whose demand is met can be made.
use Rattle.std.proofs.Common.{◌≡◌, ℕ, List, Some, None, arith, refl, subst}
use Rattle.sched_demand.specs.declared.judging.Judgement.{Judgement}
use Rattle.sched_demand.specs.declared.judging.Judgement.TheVariants as judgement
use Rattle.command_answers.specs.declared.act.PreparedRun.{PreparedRun}
use Rattle.command_answers.specs.declared.status.Status.TheVariants as status
use Rattle.command_answers.specs.Acts.{CanRun}
use Rattle.command_answers.specs.Acting.{CanBeDone}
use Rattle.command_due.specs.Tasks.{IsAnswer}
use Rattle.edf_admission.specs.Admitted.{IsAdmitted}
use Rattle.edf_correct.specs.Admitted.{EdfImagesAreAdmitted}
use Rattle.edf_correct.specs.Waits.{WaitlessTreesHaveNoWait}
use Rattle.edf_command.specs.declared.judged.Judged.{Judged}
use Rattle.edf_command.specs.Judged.{IsMet, IsSubject}

-- its image is admitted
pub is_admitted : WaitlessTreesHaveNoWait → EdfImagesAreAdmitted → (s : Judged) → IsSubject s → IsMet s.answer → IsAdmitted s.image.image
is_admitted trees law s subject met = by s.answer refl met where
  by : (answer : Judgement) → s.answer ≡ answer → IsMet answer → IsAdmitted s.image.image
  by (judgement.Feasible points) same met =
      let j = subject.1.judged in
      law subject.0 j.tree s.image points j.written (trees j.tree j.waitless) j.image (subst (λ (a : Judgement). IsAnswer s.image.image a) same j.answered)
  by (judgement.Late points at demand) same met = absurd met
  by judgement.Many same met = absurd met

pub can_be_done : (put : List ℕ) (run : PreparedRun) → CanRun run → CanBeDone None (record { status = status.Done; text = put; store = None; run = Some run })
can_be_done put run can = record {
  at = tt;
  stored = tt;
  runs = can;
  answered = ((λ six. absurd (omega (arith, six))), (λ seven. absurd (omega (arith, seven))), (λ eight. absurd (omega (arith, eight))));
  is_command = λ one. absurd (omega (arith, one));
}
