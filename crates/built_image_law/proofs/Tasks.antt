-- Tasks do not depend on bounds, and so the least bounds do not on those that stood there before.
use Rattle.std.specs.Prelude.{◌≡◌, ◌-◌, ℕ, zero, suc, cond, List, [], ◌∷◌, Option, Some, None, length, map, nat_eq, slice_get, option_map}
use Rattle.std.proofs.Common.{refl, sym, ap, subst, ◌∙◌}
use Rattle.std.proofs.lemmas.List.{length-map}
use Rattle.std.proofs.lemmas.Option.{slice_get-map}
use Rattle.machine_semantics.specs.Image.{Image, Process}
use Rattle.sched_response.specs.declared.tasks.Task.{Task}
use Rattle.valid_image.specs.Tasks.{with_rank, process_at, task_of, tasks_from, tasks_of}
use Rattle.sched_table.specs.Table.{IsBoundAt}
use Rattle.built_image.specs.Filled.{without_bound, without_bounds}
use Rattle.built_image.specs.Shown.{AreLeast}
use Rattle.built_image_law.proofs.Lists.{as_many, same_at}

with_rank_same : (r k : ℕ) (ps : List Process) → with_rank r k (map without_bound ps) ≡ with_rank r k ps
with_rank_same r k [] = refl
with_rank_same r k (p ∷ ps) = ap (λ i. cond (nat_eq p.rank r) k i) (with_rank_same r (suc k) ps)

module _ (m : Image) where
  task_same : (i : ℕ) → task_of (slice_get (map without_bound m.processes) i) ≡ task_of (slice_get m.processes i)
  task_same i = ap (λ o. task_of o) (slice_get-map without_bound m.processes i) ∙ kept (slice_get m.processes i) where
    kept : (o : Option Process) → task_of (option_map without_bound o) ≡ task_of o
    kept None = refl
    kept (Some p) = refl

  from_same : (j n : ℕ) → tasks_from (without_bounds m) j n ≡ tasks_from m j n
  from_same j zero = refl
  from_same j (suc n) =
      ap (λ i. task_of (slice_get (map without_bound m.processes) i) ∷ tasks_from (without_bounds m) (suc j) n) (with_rank_same (suc j) 0 m.processes)
      ∙ (ap (λ (t : Task). t ∷ tasks_from (without_bounds m) (suc j) n) (task_same (process_at m j))
      ∙ ap (λ (ts : List Task). task_of (slice_get m.processes (process_at m j)) ∷ ts) (from_same (suc j) n))

  tasks_same : tasks_of (without_bounds m) ≡ tasks_of m
  tasks_same = ap (λ n. tasks_from (without_bounds m) 0 n) (length-map m.processes without_bound) ∙ from_same 0 (length m.processes)

pub tasks_agree : (n m : Image) → without_bounds n ≡ without_bounds m → tasks_of n ≡ tasks_of m
tasks_agree n m same = sym (tasks_same n) ∙ (ap (λ x. tasks_of x) same ∙ tasks_same m)

pub least_is_kept : (n m : Image) (bounds : List (Option ℕ)) → without_bounds n ≡ without_bounds m → AreLeast m bounds → AreLeast n bounds
least_is_kept n m bounds same least = record {
  one_each = least.one_each ∙ sym (as_many without_bound n.processes m.processes (ap (λ (i : Image). i.processes) same));
  each = λ k p b at there.
      let x = same_at without_bound m.processes n.processes k p (sym (ap (λ (i : Image). i.processes) same)) at in
      subst (λ ts. IsBoundAt ts (p.rank - 1) b) (sym (tasks_agree n m same))
      (subst (λ r. IsBoundAt (tasks_of m) (r - 1) b) (ap (λ (q : Process). q.rank) x.2) (least.each k x.0 b x.1 there));
}
