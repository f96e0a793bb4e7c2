use Rattle.std.proofs.Common.{◌≡◌, ◌∙◌, ℕ, arith, subst, sym}
use Rattle.image.specs.Named.{NamedImage}
use Rattle.sched_demand.specs.declared.judging.Judgement.{Judgement}
use Rattle.sched_demand.specs.declared.judging.Judgement.TheVariants as judgement
use Rattle.command_due.specs.Tasks.{IsAnswer}
use Rattle.edf_admission.specs.Admitted.{HasNoWait, IsAdmitted}
use Rattle.edf_admission.proofs.edf_image.EdfImage.admit.Goals as goal

-- the image that was judged is that of the shape
is_admitted : (n seen : NamedImage) (answer : Judgement) (points : ℕ) → HasNoWait n.image → n.image.over ≡ 0 → seen ≡ n → answer ≡ judgement.Feasible points → IsAnswer seen.image answer → IsAdmitted n.image
is_admitted n seen answer points waitless over same is answered = record {
  waitless = waitless;
  over = over;
  points = points;
  feasible = subst (λ (x : NamedImage). IsAnswer x.image (judgement.Feasible points)) same (subst (λ (a : Judgement). IsAnswer seen.image a) is answered);
}

pub of_admitted-requires-clause-admitted : goal.of_admitted-requires-clause-admitted
of_admitted-requires-clause-admitted c =
    subst (λ (n : NamedImage). IsAdmitted n.image) (sym c.into_image.ensures)
    (is_admitted c.args.shape c.image.result.now c.in-Ok-Feasible.field-0 c.in-Ok-Feasible.field-0-0 c.in_default.ensures.none (omega (arith, c.overhead-over.ensures, c.if-over-ne0.false))
    c.image.ensures c.in-Ok-Feasible.field-0-is c.in-Ok-Feasible.ensures)

pub returns-in-Ok-Feasible : goal.returns-in-Ok-Feasible
returns-in-Ok-Feasible c = (
  c.of_admitted.ensures ∙ c.into_image.ensures,
  subst (λ (n : NamedImage). IsAdmitted n.image) (sym (c.of_admitted.ensures ∙ c.into_image.ensures))
      (is_admitted c.args.shape c.image.result.now c.in-Ok-Feasible.field-0 c.in-Ok-Feasible.field-0-0 c.in_default.ensures.none (omega (arith, c.overhead-over.ensures, c.if-over-ne0.false))
      c.image.ensures c.in-Ok-Feasible.field-0-is c.in-Ok-Feasible.ensures),
)
