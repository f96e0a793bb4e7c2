-- What the test says of one image of a program, it says of every other.
use Rattle.std.proofs.Common.{◌≡◌, ◌-◌, ℕ, suc, List, [], ◌∷◌, length, map, Option, Some, None, arith, refl, ap, sym, ◌∙◌}
use Rattle.std.specs.Prelude.{slice_get, option_map}
use Rattle.std.proofs.lemmas.Option.{slice_get-map}
use Rattle.machine_semantics.specs.Image.{Image, Process}
use Rattle.sched_demand.specs.declared.tasks.DemandTask.{DemandTask}
use Rattle.sched_demand.specs.Demand.{task_at}
use Rattle.built_image.specs.Filled.{without_bound, without_bounds}
use Rattle.built_image_law.specs.FilledLaws.{ShapesAgree}
use Rattle.command_due.specs.Tasks.{IsLastOfDeadline, AreDemands}
use Rattle.edf_correct.specs.Answers.{AnswersAreOfTheImage}

-- the process in the other image, the same but for its bound
record Twin (m : Image) (k : ℕ) (p : Process) : Type 0 where
  q : Process
  at : slice_get m.processes k ≡ Some q
  is : without_bound p ≡ without_bound q

twin : (m n : Image) → without_bounds n ≡ without_bounds m → (k : ℕ) (p : Process) → slice_get n.processes k ≡ Some p → Twin m k p
twin m n same k p at_p = by (slice_get m.processes k) refl there where
  processes_same : map without_bound m.processes ≡ map without_bound n.processes
  processes_same = ap (λ (x : Image). x.processes) (sym same)

  there : option_map without_bound (slice_get m.processes k) ≡ Some (without_bound p)
  there =
      sym (slice_get-map without_bound m.processes k) ∙ ap (λ (ps : List Process). slice_get ps k) processes_same
      ∙ slice_get-map without_bound n.processes k ∙ ap (λ (o : Option Process). option_map without_bound o) at_p

  by : (o : Option Process) → slice_get m.processes k ≡ o → option_map without_bound o ≡ Some (without_bound p) → Twin m k p
  by None at is = absurd cc
  by (Some q) at is = record { q = q; at = at; is = (let same_some : Some (without_bound p) ≡ Some (without_bound q) = sym is in cc) }

length_map : (f : Process → Process) (ps : List Process) → length (map f ps) ≡ length ps
length_map f [] = refl
length_map f (p ∷ ps) = ap suc (length_map f ps)

demands_of : (m n : Image) (ts : List DemandTask) → without_bounds n ≡ without_bounds m → AreDemands m ts → AreDemands n ts
demands_of m n ts same d = record {
  many = d.many ∙ (sym (length_map without_bound m.processes) ∙ ap (λ (x : Image). length x.processes) (sym same) ∙ length_map without_bound n.processes);
  frame = λ k p at. (let t = twin m n same k p at in at_rank k p t (λ (x : DemandTask). x.frame) ∙ d.frame k t.q t.at ∙ ap (λ (x : Process). x.frame) (sym t.is));
  deadline = λ k p at. (let t = twin m n same k p at in at_rank k p t (λ (x : DemandTask). x.deadline) ∙ d.deadline k t.q t.at ∙ ap (λ (x : Process). x.deadline) (sym t.is));
  cost = λ k p at. (let t = twin m n same k p at in at_rank k p t (λ (x : DemandTask). x.cost) ∙ d.cost k t.q t.at ∙ ap (λ (x : Process). x.run) (sym t.is));
  block = λ j k p q at_p at_q alike last.
      (let t = twin m n same j p at_p in
      let u = twin m n same k q at_q in
      let due : t.q.deadline ≡ u.q.deadline = ap (λ (x : Process). x.deadline) (sym t.is) ∙ alike ∙ ap (λ (x : Process). x.deadline) u.is in
      at_rank j p t (λ (x : DemandTask). x.block) ∙ d.block j k t.q u.q t.at u.at due (still_last u.q q u.is last) ∙ ap (λ (x : Process). x.block) (sym u.is));
} where
  at_rank : {A : Type 0} (k : ℕ) (p : Process) (t : Twin m k p) (f : DemandTask → A) → f (task_at ts (p.rank - 1)) ≡ f (task_at ts (t.q.rank - 1))
  at_rank k p t f = ap (λ (x : Process). f (task_at ts (x.rank - 1))) t.is

  still_last : (u q : Process) → without_bound q ≡ without_bound u → IsLastOfDeadline n q → IsLastOfDeadline m u
  still_last u q is last = λ i r at due. (
      let s = twin n m (sym same) i r at in
      let le = last i s.q s.at (ap (λ (x : Process). x.deadline) (sym s.is) ∙ due ∙ ap (λ (x : Process). x.deadline) (sym is)) in
      omega (arith, le, ap (λ (x : Process). x.rank) s.is, ap (λ (x : Process). x.rank) is))

pub answers_are_of_the_image : ShapesAgree → AnswersAreOfTheImage
answers_are_of_the_image law g n answer edf told =
    let same : without_bounds n.image ≡ without_bounds told.image = law g 0 told.image n.image told.shaped edf.shaped in
    record {
      tasks = told.answered.tasks;
      demands = demands_of told.image n.image told.answered.tasks same told.answered.demands;
      valid = told.answered.valid;
      reach = told.answered.reach;
      is_reach = told.answered.is_reach;
      judged = told.answered.judged;
    }
