-- The test of the demand says one thing of a shape.
use Rattle.std.proofs.Common.{◌≡◌, ◌≤◌, ◌<◌, ◌+◌, ◌-◌, ◌∙◌, inl, inr, ℕ, zero, suc, List, length, None, Some, refl, sym, ap, subst, arith}
use Rattle.std.specs.Prelude.{slice_get, get_or}
use Rattle.std.proofs.lemmas.Bool.{cases_lt}
use Rattle.std.proofs.lemmas.List.{same_lists}
use Rattle.std.proofs.lemmas.Option.{get_or_from_slice_get, slice_get-get_or}
use Rattle.base.proofs.Lists.{some_at}
use Rattle.base.specs.Capped.{cap}
use Rattle.machine_semantics.specs.Image.{Image, Process}
use Rattle.valid_image.specs.Times.{rank_fault}
use Rattle.loader.proofs.Order.{ranks_none}
use Rattle.sched_demand.specs.declared.tasks.DemandTask.{DemandTask}
use Rattle.sched_demand.specs.declared.judging.Judgement.{Judgement}
use Rattle.sched_demand.specs.declared.judging.Judgement.TheVariants as verdict
use Rattle.sched_demand.specs.Demand.{task_at, demand_at, IsJudged, IsReach}
use Rattle.sched_demand.proofs.Rising.{one_reach}
use Rattle.command_due.specs.Tasks.{AreDemands, IsAnswer}
use Rattle.edf_admission.specs.EdfAdmit.{AdmittedShapesAreNotRefused, EachShapeHasOneAnswer}
use Rattle.edf_admission.specs.Steps.{IsLastBlock, IsLastSoFar}
use Rattle.edf_admission.specs.declared.edf_fault.EdfFault.TheVariants as fault
use Rattle.edf_admission.proofs.Lasts.{first_last, last_is, next_is_last, next_is_not}
use Rattle.edf_admission.proofs.Ranks.{each_rank_is_had}
use Rattle.edf_admission.proofs.Asked.{no_demand}

-- ---- each deadline has a last process

abbrev SoFar : Image → (d n : ℕ) → Type 0
SoFar m d n = (rank : ℕ) × (block : ℕ) × IsLastSoFar m d n rank block

some_so_far : (m : Image) (k : ℕ) (p : Process) → slice_get m.processes k ≡ Some p → (n : ℕ) → n ≤ length m.processes → SoFar m p.deadline n
some_so_far m k p at zero within = (p.rank, p.block, first_last m k p at)
some_so_far m k p at (suc n) within =
    let is : n + 1 ≡ suc n = omega arith in
    let s = some_so_far m k p at n (omega (arith, within)) in
    let x = some_at m.processes n (omega (arith, within)) in
    let q : Process = x.0 in
    subst (λ (i : ℕ). SoFar m p.deadline i) is (elim (cases_lt s.0 q.rank) [
      | inl up ↦ elim (cases_lt q.deadline p.deadline) [
        | inl less ↦ (s.0, s.1, next_is_not m p.deadline n s.0 s.1 q x.1 s.2 (λ e. absurd (omega (arith, e, less))))
        | inr ge ↦ elim (cases_lt p.deadline q.deadline) [
          | inl more ↦ (s.0, s.1, next_is_not m p.deadline n s.0 s.1 q x.1 s.2 (λ e. absurd (omega (arith, e, more))))
          | inr le ↦ (q.rank, q.block, next_is_last m p.deadline n s.0 s.1 q x.1 s.2 (omega (arith, ge, le)) up)
        ]
      ]
      | inr low ↦ (s.0, s.1, next_is_not m p.deadline n s.0 s.1 q x.1 s.2 (λ e. omega (arith, low)))
    ])

pub last_there : (m : Image) (k : ℕ) (p : Process) → slice_get m.processes k ≡ Some p → (block : ℕ) × IsLastBlock m p.deadline block
last_there m k p at = let s = some_so_far m k p at (length m.processes) (omega arith) in (s.1, last_is m p.deadline (length m.processes) s.0 s.1 (omega arith) s.2)

-- ---- one list of tasks

any_default : (ts : List DemandTask) (level : ℕ) (d e : DemandTask) → level < length ts → get_or ts level d ≡ get_or ts level e
any_default ts level d e low = get_or_from_slice_get ts level (get_or ts level e) d (slice_get-get_or ts level e low)

same_task : (t u : DemandTask) → t.frame ≡ u.frame → t.deadline ≡ u.deadline → t.cost ≡ u.cost → t.block ≡ u.block → t ≡ u
same_task t u frame deadline cost block =
    ap (λ (n : ℕ). record t { frame = n }) frame
    ∙ (ap (λ (n : ℕ). record { frame = u.frame; deadline = n; cost = t.cost; block = t.block }) deadline
    ∙ (ap (λ (n : ℕ). record { frame = u.frame; deadline = u.deadline; cost = n; block = t.block }) cost ∙ ap (λ (n : ℕ). record { frame = u.frame; deadline = u.deadline; cost = u.cost; block = n }) block))

module _ (m : Image) (none : rank_fault m ≡ None) (ts us : List DemandTask) (one : AreDemands m ts) (other : AreDemands m us) where
  same_at : (level : ℕ) → level < length m.processes → task_at ts level ≡ task_at us level
  same_at level low =
      let had = each_rank_is_had m none level low in
      let k = had.0 in
      let p : Process = had.1.p in
      let at = had.1.at in
      let here : p.rank - 1 ≡ level = omega (arith, had.1.is) in
      let l = (last_there m k p at).1 in
      let block = one.block k l.k p l.q at l.at (sym l.of) l.last ∙ sym (other.block k l.k p l.q at l.at (sym l.of) l.last) in
      let same : task_at ts (p.rank - 1) ≡ task_at us (p.rank - 1) =
      same_task (task_at ts (p.rank - 1)) (task_at us (p.rank - 1)) (one.frame k p at ∙ sym (other.frame k p at)) (one.deadline k p at ∙ sym (other.deadline k p at)) (one.cost k p at ∙ sym (other.cost k p at)) block in
      subst (λ (i : ℕ). task_at ts i ≡ task_at us i) here same

  pub same_tasks : ts ≡ us
  same_tasks =
      same_lists ts us (one.many ∙ sym other.many)
      (λ level d low. any_default ts level d no_demand low ∙ (same_at level (omega (arith, low, one.many)) ∙ any_default us level no_demand d (omega (arith, low, one.many, other.many))))

-- ---- one answer

one_judgement : (ts : List DemandTask) (reach : ℕ) (a b : Judgement) → IsJudged ts reach a → IsJudged ts reach b → a ≡ b
one_judgement ts reach (verdict.Feasible count) (verdict.Feasible other) one two = ap (λ (n : ℕ). verdict.Feasible n) (one.0 ∙ sym two.0)
one_judgement ts reach (verdict.Feasible count) (verdict.Late other at demand) one two = absurd (let met = one.2 at two.2.point in omega (arith, met, two.2.late))
one_judgement ts reach (verdict.Feasible count) verdict.Many one two = absurd (omega (arith, one.0, one.1, two))
one_judgement ts reach (verdict.Late count at demand) (verdict.Feasible other) one two = absurd (let met = two.2 at one.2.point in omega (arith, met, one.2.late))
one_judgement ts reach (verdict.Late count at demand) (verdict.Late other when asked) one two =
    let l = one.2 in
    let r = two.2 in
    let same : at ≡ when = elim (cases_lt at when) [
      | inl less ↦ absurd (let met = r.first at l.point less in omega (arith, met, l.late))
      | inr ge ↦ elim (cases_lt when at) [ inl more ↦ absurd (let met = l.first when r.point more in omega (arith, met, r.late)) | inr le ↦ omega (arith, ge, le) ]
    ] in
    let much : demand ≡ asked = l.demand_is ∙ (ap (λ (t : ℕ). cap (demand_at ts t)) same ∙ sym r.demand_is) in
    ap (λ (n : ℕ). verdict.Late n at demand) (one.0 ∙ sym two.0) ∙ (ap (λ (n : ℕ). verdict.Late other n demand) same ∙ ap (λ (n : ℕ). verdict.Late other when n) much)
one_judgement ts reach (verdict.Late count at demand) verdict.Many one two = absurd (omega (arith, one.0, one.1, two))
one_judgement ts reach verdict.Many (verdict.Feasible other) one two = absurd (omega (arith, two.0, two.1, one))
one_judgement ts reach verdict.Many (verdict.Late other at demand) one two = absurd (omega (arith, two.0, two.1, one))
one_judgement ts reach verdict.Many verdict.Many one two = refl

pub one_answer : (m : Image) (a b : Judgement) → rank_fault m ≡ None → IsAnswer m a → IsAnswer m b → a ≡ b
one_answer m a b none one two =
    let tasks : two.tasks ≡ one.tasks = same_tasks m none two.tasks one.tasks two.demands one.demands in
    let reach : two.reach ≡ one.reach = one_reach one.tasks two.reach one.reach (subst (λ (ts : List DemandTask). IsReach ts two.reach) tasks two.is_reach) one.is_reach in
    one_judgement one.tasks one.reach a b one.judged (subst (λ (r : ℕ). IsJudged one.tasks r b) reach (subst (λ (ts : List DemandTask). IsJudged ts two.reach b) tasks two.judged))

pub each_shape_has_one_answer : EachShapeHasOneAnswer
each_shape_has_one_answer named a b shape one two = one_answer named.image a b (ranks_none named.image shape.valid) one two

pub admitted_shapes_are_not_refused : EachShapeHasOneAnswer → AdmittedShapesAreNotRefused
admitted_shapes_are_not_refused law named (fault.Waits at) shape is refused = absurd (is.waitless at refused.here)
admitted_shapes_are_not_refused law named (fault.Overhead over) shape is refused = absurd (refused.some is.over)
admitted_shapes_are_not_refused law named (fault.Unfit answer) shape is refused = absurd (refused.unfit is.points (law named answer (verdict.Feasible is.points) shape refused.answered is.feasible))
admitted_shapes_are_not_refused law named (fault.Memory _) shape is refused = refl
