-- A valid image is timed.
use Rattle.std.proofs.Common.{◌≡◌, ◌≤◌, ◌<◌, ◌+◌, ◌*◌, ◌-◌, inl, inr, ℕ, zero, suc, List, [], ◌∷◌, length, Option, Some, None, arith, refl, ap, sym, subst, ◌∙◌, true, false, Bool}
use Rattle.std.specs.Prelude.{cond, nat_eq, nat_le, slice_get}
use Rattle.std.proofs.lemmas.Bool.{cases_lt, cases_Bool, leb-true}
use Rattle.std.proofs.lemmas.Bool.Decides.{nat_tests}
use Rattle.base.specs.Capped.{cap}
use Rattle.base.specs.declared.capped.Cost.{Cost}
use Rattle.sched_response.specs.declared.tasks.Task.{Task}
use Rattle.sched_response.specs.Demand.{task_at, demand_at, Solves}
use Rattle.machine_semantics.specs.Trees.{Segs}
use Rattle.machine_semantics.specs.Image.{Image, Process}
use Rattle.machine_semantics.specs.Safe.{Parts, part_of}
use Rattle.machine_semantics.specs.Work.{worst_of}
use Rattle.valid_image.specs.Tasks.{with_rank, process_at, task_of, tasks_of}
use Rattle.sched_timing.specs.Timed.{IsCovered, ImageIsTimed}
use Rattle.valid_image.specs.Found.{Found}
use Rattle.valid_image.specs.Fault.{unless}
use Rattle.valid_image.specs.Shape.{shape_fault}
use Rattle.valid_image.specs.Sizes.{below, cost_fault}
use Rattle.valid_image.specs.Times.{process_bound_fault, bound_fault, rank_fault}
use Rattle.valid_image.specs.Tables.{known, body_found, handler_start, handler_found, nothing_found, found_or_nothing, stay_of_process}
use Rattle.valid_image.specs.Valid.{IsInLimits}
use Rattle.valid_image_law.proofs.Firsts.{neither, passed_test, none_of_all}
use Rattle.valid_image_law.proofs.Shapes.{process_shaped}
use Rattle.valid_image_law.proofs.Exact.{IsWithin, itself, many, part_same}
use Rattle.valid_image_law.proofs.Rows.{exact, alike, process_costs, at_least_needed}
use Rattle.valid_image_law.proofs.Parts.{no_part, where_in, stay_by}
use Rattle.valid_image_law.proofs.Processes.{exact_body, exact_handler, parts_some, parts_in}
use Rattle.valid_image_law.proofs.Ranking.{ranked, one_each, blocks}
use Rattle.sched_timing.proofs.Ranks.{tasks_at}

-- ---- tasks in the order of ranks

-- the search for a rank that one process alone has ends there
pub search : (rank i j : ℕ) (qs : List Process) (p : Process) → slice_get qs j ≡ Some p → p.rank ≡ rank → ((l : ℕ) (q : Process) → slice_get qs l ≡ Some q → q.rank ≡ rank → l ≡ j) → with_rank rank i qs ≡ i + j
search rank i j [] p at is alone = absurd cc
search rank i zero (q ∷ qs) p at is alone =
    let same : q ≡ p = cc in
    let hit : nat_eq q.rank rank ≡ true = same_true q.rank rank (ap (λ (x : Process). x.rank) same ∙ is) in
    ap (λ b. cond b i (with_rank rank (suc i) qs)) hit ∙ omega arith
  where
    same_true : (m n : ℕ) → m ≡ n → nat_eq m n ≡ true
    same_true m n is = grind (arith, nat_tests, is)
search rank i (suc j) (q ∷ qs) p at is alone = elim (cases_Bool (nat_eq q.rank rank)) [
  | inl hit ↦ absurd (let early : 0 ≡ suc j = alone 0 q refl (same_is q.rank rank hit) in omega (arith, early))
  | inr miss ↦ ap (λ b. cond b i (with_rank rank (suc i) qs)) miss
      ∙ (search rank (suc i) j qs p at is (λ l x there of. (let e : suc l ≡ suc j = alone (suc l) x there of in omega (arith, e))) ∙ omega arith)
] where
  same_is : (m n : ℕ) → nat_eq m n ≡ true → m ≡ n
  same_is m n is = grind (arith, nat_tests, is)

own_task : (image : Image) → ((k : ℕ) (p : Process) → slice_get image.processes k ≡ Some p → (1 ≤ p.rank) × (p.rank ≤ length image.processes))
    → ((j k : ℕ) (p q : Process) → slice_get image.processes j ≡ Some p → slice_get image.processes k ≡ Some q → p.rank ≡ q.rank → j ≡ k)
    → (k : ℕ) (p : Process) → slice_get image.processes k ≡ Some p → task_at (tasks_of image) (p.rank - 1) ≡ task_of (Some p)
own_task image ranked_all alone k p at =
    let r = ranked_all k p at in
    let rank : suc (p.rank - 1) ≡ p.rank = omega (arith, r.0) in
    let place : process_at image (p.rank - 1) ≡ 0 + k = search (suc (p.rank - 1)) 0 k image.processes p at (sym rank) (λ l q there of. alone l k q p there at (of ∙ rank)) in
    let here : process_at image (0 + (p.rank - 1)) ≡ k = (let z : 0 + (p.rank - 1) ≡ p.rank - 1 = omega arith in let y : 0 + k ≡ k = omega arith in ap (λ n. process_at image n) z ∙ (place ∙ y)) in
    tasks_at image 0 (length image.processes) (p.rank - 1) _ (omega (arith, r.0, r.1)) ∙ ap (λ o. task_of o) (ap (λ n. slice_get image.processes n) here ∙ at)

-- ---- costs

-- a product of what is within
pub times_within : (n a b : ℕ) → cap a ≤ cap b → cap (n * a) ≤ cap (n * b)
times_within n a b le = elim (cases_lt 0 n) [
  | inl some ↦ many n a b some le
  | inr none ↦ (let z : n ≡ 0 = omega (arith, none) in let l : n * a ≡ 0 = ap (λ k. k * a) z ∙ omega arith in omega (arith, l))
]

module _ (image : Image) (shaped : shape_fault image ≡ None) (costs : cost_fault image ≡ None) (ranks : rank_fault image ≡ None) (bounds : bound_fault image ≡ None)
    (some : 0 < length image.processes) (few : length image.processes ≤ 64) (limits : (k : ℕ) (p : Process) → slice_get image.processes k ≡ Some p → IsInLimits p) where
  -- the exact costs of both parts are within the declared ones
  body_within : (k : ℕ) (p : Process) → slice_get image.processes k ≡ Some p → IsWithin (exact_body image p).cost (found_or_nothing (body_found image p)).cost
  body_within k p at =
      let s = process_shaped image shaped k p at in
      let e = part_same image.code (known image) (exact image) (alike image shaped costs) p.body p.start s.f s.body in
      let x : found_or_nothing (body_found image p) ≡ s.f = ap (λ o. found_or_nothing o) s.body in
      let y : exact_body image p ≡ e.g = ap (λ o. found_or_nothing o) e.is in
      subst (λ (f : Found). IsWithin f.cost (found_or_nothing (body_found image p)).cost) (sym y) (subst (λ (f : Found). IsWithin e.g.cost f.cost) (sym x) e.cost)

  handler_within : (p : Process) (o : Option Segs) (g : Found) → handler_found image p o ≡ Some g → IsWithin (exact_handler image p o).cost (found_or_nothing (handler_found image p o)).cost
  handler_within p None g is = itself nothing_found.cost
  handler_within p (Some tree) g is =
      let e = part_same image.code (known image) (exact image) (alike image shaped costs) tree (handler_start p) g is in
      let x : found_or_nothing (handler_found image p (Some tree)) ≡ g = ap (λ o. found_or_nothing o) is in
      let y : exact_handler image p (Some tree) ≡ e.g = ap (λ o. found_or_nothing o) e.is in
      subst (λ (f : Found). IsWithin f.cost (found_or_nothing (handler_found image p (Some tree))).cost) (sym y) (subst (λ (f : Found). IsWithin e.g.cost f.cost) (sym x) e.cost)

  covered : (k : ℕ) (p : Process) → slice_get image.processes k ≡ Some p → IsCovered image.over (worst_of (parts_in image k)) p
  covered k p at =
      let s = process_shaped image shaped k p at in
      let b = body_within k p at in
      let h = handler_within p p.handler_tree s.g s.handler in
      let c = process_costs image costs k p at in
      let f : Cost = (found_or_nothing (body_found image p)).cost in
      let g : Cost = (found_or_nothing (handler_found image p p.handler_tree)).cost in
      let x : Cost = (exact_body image p).cost in
      let y : Cost = (exact_handler image p p.handler_tree).cost in
      let waits : cap (1 + x.waits) ≤ cap (1 + (f.waits + g.waits)) = omega (arith, b.waits) in
      let dispatch : cap (2 * image.over * (1 + x.waits)) ≤ cap (2 * image.over * (1 + (f.waits + g.waits))) = times_within (2 * image.over) (1 + x.waits) (1 + (f.waits + g.waits)) waits in
      let run : cap ((x.run + y.run + 4) + 2 * image.over * (1 + x.waits)) ≤ p.run = omega (arith, b.run, h.run, dispatch, c.run) in
      let susp : cap x.susp ≤ p.susp = omega (arith, b.susp, c.susp) in
      let wait : cap x.waits ≤ p.waits = omega (arith, b.waits, c.waits) in
      subst (λ (ps : Parts). IsCovered image.over (worst_of ps) p) (sym (ap (λ o. parts_some image k o) at)) (record { run = run; susp = susp; waits = wait })

  -- both parts of a process tell the stays that it reaches
  stays_are : (k m : ℕ) (q : Process) (h : Bool) → slice_get image.processes k ≡ Some q → (part_of (parts_in image k) h).stays m ≡ stay_by image (stay_of_process image k m)
  stays_are k m q true at = ap (λ o. (part_of (parts_some image k o) true).stays m) at
  stays_are k m q false at = ap (λ o. (part_of (parts_some image k o) false).stays m) at

  bound_meets : (k : ℕ) (p : Process) → slice_get image.processes k ≡ Some p → (demand_at (tasks_of image) (p.rank - 1) p.bound ≤ p.bound) × (p.bound ≤ p.deadline)
  bound_meets k p at =
      let t = neither (below p.bound (demand_at (tasks_of image) (p.rank - 1) p.bound)) (unless (nat_le p.bound (p.deadline)) p.bound (p.deadline)) (none_of_all (λ k p. process_bound_fault image p) image.processes bounds k p at) in
      (at_least_needed p.bound (demand_at (tasks_of image) (p.rank - 1) p.bound) t.0, leb-true p.bound (p.deadline) (passed_test (nat_le p.bound (p.deadline)) p.bound (p.deadline) t.1))

  solved : (k : ℕ) (p : Process) → slice_get image.processes k ≡ Some p → Solves (tasks_of image) (p.rank - 1) p.bound
  solved k p at =
      let l = limits k p at in
      let b = bound_meets k p at in
      let own : task_at (tasks_of image) (p.rank - 1) ≡ task_of (Some p) = own_task image (ranked image ranks) (one_each image ranks) k p at in
      record { above = l.bound; within = omega (arith, b.1, ap (λ (t : Task). t.deadline) own); met = b.0 }

  pub image_is_timed : ImageIsTimed (where_in image no_part) (parts_in image)
  image_is_timed = record {
    some = some;
    few = few;
    limits = λ k p at. (let l = limits k p at in record { frame_low = l.frame_low; frame_high = l.frame_high; deadline_low = l.deadline_low; deadline_high = l.deadline_high; run = l.run; susp = l.susp; waits = l.waits; block = l.block });
    ranked = ranked image ranks;
    one_each = one_each image ranks;
    covered = covered;
    blocks = λ j k m p q monitor h at_j at_k there lower reaches.
        (let c = blocks image ranks j k m p q monitor at_j at_k there lower reaches in omega (arith, c, stays_are k m q h at_k));
    solved = solved;
  }
