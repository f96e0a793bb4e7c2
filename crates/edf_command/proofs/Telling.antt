-- What is told of `edf`, where the call is refused.
use Rattle.std.proofs.Common.{◌≡◌, ◌⊎◌, ℕ, List, Option, Some, None, Bool, true, false, inl, inr, refl, ap, subst}
use Rattle.std.specs.Prelude.{IsSomeAnd}
use Rattle.std.specs.Bool.{OnTrue}
use Rattle.outside.specs.Outside.{AllStay}
use Rattle.sched_demand.specs.declared.judging.Judgement.{Judgement}
use Rattle.sched_demand.specs.declared.judging.Judgement.TheVariants as judgement
use Rattle.command_words.specs.Calls as call
use Rattle.command_due.specs.EdfDue.{IsJudgedText}
use Rattle.command_answers.specs.declared.act.PreparedCall.{PreparedCall}
use Rattle.command_answers.specs.declared.status.Status.TheVariants as status
use Rattle.command_answers.specs.Acting.{puts}
use Rattle.command_answers.specs.Acts.{number_of, outcome_of}
use Rattle.command_answers.specs.Files.{Held}
use Rattle.message_program.specs.Late.{demand_message}
use Rattle.command_refusals.specs.Refusals.{Explains, HasFeasibleNames, IsExplained, IsLaterTold, IsScriptedTold}
use Rattle.command_refusals.specs.Told.{IsDemandedTold, IsScriptTold}
use Rattle.edf_command.specs.declared.judged.Judged.{Judged}
use Rattle.edf_command.specs.Judged.{IsMet}
use Rattle.edf_command.specs.Told.{IsSubjectTold}

module _ (program script message : List ℕ) (s : Judged) (act : PreparedCall) where
  -- ---- a program that was judged

  -- its demand is not met
  pub unfit_told : (tells : Bool) (held : Option (List ℕ)) (text : List ℕ) → act ≡ puts status.Late text → message ≡ demand_message program s.answer
      → OnTrue tells (Explains (IsSubjectTold program s held script (outcome_of act) message) act)
  unfit_told true held text is told = λ refused. inl (record { late = ap (λ (a : PreparedCall). number_of a.status) is; is = told })
  unfit_told false held text is told = tt

  -- it is, and the script is told
  pub met_told : (tells : Bool) (held : Option (List ℕ)) → IsMet s.answer → OnTrue tells (IsSomeAnd held (λ text. Explains (IsScriptTold s.image.names script text (outcome_of act) message) act))
      → OnTrue tells (Explains (IsSubjectTold program s held script (outcome_of act) message) act)
  met_told true (Some text) met told = λ refused. inr (met, told refused)
  met_told true None met told = absurd told
  met_told false held met told = tt

  -- ---- the call

  named : (answer : Judgement) → IsMet answer → (text : List ℕ) → IsJudgedText text s.image answer → HasFeasibleNames text s.image.names
  named (judgement.Feasible points) met text judged = (s.image, points, judged, refl)
  named (judgement.Late points at demand) met text judged = absurd met
  named judgement.Many met text judged = absurd met

  abbrev IsTold : List ℕ → Type 0
  IsTold text = IsDemandedTold program text (outcome_of act) message

  of_text : (text : List ℕ) (mid held : Option (List ℕ)) → IsJudgedText text s.image s.answer → mid ≡ held → IsSubjectTold program s mid script (outcome_of act) message
      → IsTold text ⊎ IsLaterTold HasFeasibleNames (λ names t. IsScriptTold names script t (outcome_of act) message) text held
  of_text text mid held judged same (inl unfit) = inl (inr (record { late = unfit.late; image = s.image; answer = s.answer; judged = judged; is = unfit.is }))
  of_text text mid held judged same (inr (met, told)) =
      inr (s.image.names, named s.answer met text judged, subst (λ (o : Option (List ℕ)). IsSomeAnd o (λ t. IsScriptTold s.image.names script t (outcome_of act) message)) same told)

  of_source : (tells : Bool) (source mid held : Option (List ℕ)) (P : List ℕ → Type 0) → OnTrue tells (IsSomeAnd source P) → ((text : List ℕ) → P text → IsJudgedText text s.image s.answer)
      → mid ≡ held → OnTrue tells (Explains (IsSubjectTold program s mid script (outcome_of act) message) act)
      → OnTrue tells (Explains (IsScriptedTold IsTold HasFeasibleNames script source held (outcome_of act) message) act)
  of_source true (Some text) mid held P is judged same told = λ refused. of_text text mid held (judged text is) same (told refused)
  of_source true None mid held P is judged same told = absurd is
  of_source false source mid held P is judged same told = tt

  pub edf_explained : (tells : Bool) (before mid : Held) (P : List ℕ → Type 0) → OnTrue tells (IsSomeAnd (before program) P) → ((text : List ℕ) → P text → IsJudgedText text s.image s.answer)
      → AllStay before mid → OnTrue tells (Explains (IsSubjectTold program s (mid script) script (outcome_of act) message) act) → IsExplained tells (call.edf program script) before message act
  edf_explained tells before mid P is judged stays told = of_source tells (before program) (mid script) (before script) P is judged (stays script) told
