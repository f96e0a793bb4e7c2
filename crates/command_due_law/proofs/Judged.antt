-- The test of the demand says one thing.
use Rattle.std.proofs.Common.{◌≡◌, ◌∙◌, inl, inr, ℕ, List, refl, sym, ap, subst, arith}
use Rattle.std.proofs.lemmas.Bool.{cases_lt}
use Rattle.base.specs.Capped.{cap}
use Rattle.sched_demand.specs.declared.tasks.DemandTask.{DemandTask}
use Rattle.sched_demand.specs.declared.judging.Judgement.{Judgement}
use Rattle.sched_demand.specs.declared.judging.Judgement.TheVariants as judgement
use Rattle.sched_demand.specs.Demand.{demand_at, IsJudged, IsLate, IsReach}
use Rattle.command_due_law.specs.EdfDueOnce.{AnswersAreOne}
use Rattle.command_due_law.proofs.Listed.{one_list}
use Rattle.code_measures.proofs.Valid.{no_rank_fault}

-- the first late point is one
same_point : (ts : List DemandTask) (reach at other demand asked : ℕ) → IsLate ts reach at demand → IsLate ts reach other asked → at ≡ other
same_point ts reach at other demand asked one two = elim (cases_lt at other) [
  | inl less ↦ absurd (let met = two.first at one.point less in let late = one.late in omega (arith, met, late))
  | inr more ↦ elim (cases_lt other at) [
    | inl less ↦ absurd (let met = one.first other two.point less in let late = two.late in omega (arith, met, late))
    | inr le ↦ omega (arith, more, le)
  ]
]

late_same : (n k at other demand asked : ℕ) → n ≡ k → at ≡ other → demand ≡ asked → judgement.Late n at demand ≡ judgement.Late k other asked
late_same n k at other demand asked counts points demands =
    ap (λ (x : ℕ). judgement.Late x at demand) counts ∙ (ap (λ (x : ℕ). judgement.Late k x demand) points ∙ ap (λ (x : ℕ). judgement.Late k other x) demands)

one_judgement : (ts : List DemandTask) (reach : ℕ) (a b : Judgement) → IsJudged ts reach a → IsJudged ts reach b → a ≡ b
one_judgement ts reach (judgement.Feasible n) (judgement.Feasible k) x y = ap (λ (c : ℕ). judgement.Feasible c) (x.0 ∙ sym y.0)
one_judgement ts reach (judgement.Feasible n) (judgement.Late k at demand) x y = absurd (let met = x.2 at y.2.point in let late = y.2.late in omega (arith, met, late))
one_judgement ts reach (judgement.Feasible n) judgement.Many x y = absurd (let count = x.0 in let few = x.1 in omega (arith, count, few, y))
one_judgement ts reach (judgement.Late n at demand) (judgement.Feasible k) x y = absurd (let met = y.2 at x.2.point in let late = x.2.late in omega (arith, met, late))
one_judgement ts reach (judgement.Late n at demand) (judgement.Late k other asked) x y =
    let points : at ≡ other = same_point ts reach at other demand asked x.2 y.2 in
    late_same n k at other demand asked (x.0 ∙ sym y.0) points (x.2.demand_is ∙ (ap (λ (t : ℕ). cap (demand_at ts t)) points ∙ sym y.2.demand_is))
one_judgement ts reach (judgement.Late n at demand) judgement.Many x y = absurd (let count = x.0 in let few = x.1 in omega (arith, count, few, y))
one_judgement ts reach judgement.Many (judgement.Feasible k) x y = absurd (let count = y.0 in let few = y.1 in omega (arith, count, few, x))
one_judgement ts reach judgement.Many (judgement.Late k at demand) x y = absurd (let count = y.0 in let few = y.1 in omega (arith, count, few, x))
one_judgement ts reach judgement.Many judgement.Many x y = refl

pub judged_once : ((ts : List DemandTask) (reach other : ℕ) → IsReach ts reach → IsReach ts other → reach ≡ other) → AnswersAreOne
judged_once reaches m a b ranks one two =
    let lists : one.tasks ≡ two.tasks = one_list m (no_rank_fault m ranks) one.tasks two.tasks one.demands two.demands in
    let reach : one.reach ≡ two.reach = reaches two.tasks one.reach two.reach (subst (λ (ts : List DemandTask). IsReach ts one.reach) lists one.is_reach) two.is_reach in
    let judged : IsJudged two.tasks two.reach a = subst (λ (r : ℕ). IsJudged two.tasks r a) reach (subst (λ (ts : List DemandTask). IsJudged ts one.reach a) lists one.judged) in
    one_judgement two.tasks two.reach a b judged two.judged
