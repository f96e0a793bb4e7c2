-- The least solutions of one recurrence are one, and so are those of images that differ in bounds alone.
use Rattle.std.proofs.Common.{◌≡◌, ◌≤◌, ◌-◌, ℕ, List, Option, Some, None, arith, refl, ap, sym, subst}
use Rattle.machine_semantics.specs.Image.{Image, Process}
use Rattle.sched_response.specs.declared.tasks.Task.{Task}
use Rattle.sched_response.specs.Demand.{Solves, IsBound}
use Rattle.sched_table.specs.Table.{IsBoundAt}
use Rattle.valid_image.specs.Tasks.{tasks_of}
use Rattle.built_image.specs.Built.{Responds}
use Rattle.built_image.specs.Filled.{without_bound, without_bounds}
use Rattle.built_image_law.proofs.Tasks.{tasks_agree}

-- ---- one recurrence

pub one_bound : (ts : List Task) (level r s : ℕ) → IsBound ts level r → IsBound ts level s → r ≡ s
one_bound ts level r s one two =
    let low : r ≤ s = one.least s two.solves in
    let high : s ≤ r = two.least r one.solves in
    omega (arith, low, high)

pub one_bound_or_none : (ts : List Task) (level : ℕ) (b c : Option ℕ) → IsBoundAt ts level b → IsBoundAt ts level c → b ≡ c
one_bound_or_none ts level None None one two = refl
one_bound_or_none ts level None (Some s) one two = absurd (one s two.solves)
one_bound_or_none ts level (Some r) None one two = absurd (two r one.solves)
one_bound_or_none ts level (Some r) (Some s) one two = ap Some (one_bound ts level r s one two)

-- ---- images that differ in bounds alone

module _ (m n : Image) (same : without_bounds m ≡ without_bounds n) (p q : Process) (alike : without_bound p ≡ without_bound q) where
  pub same_responses : (r : ℕ) → Responds m p r → Responds n q r
  same_responses r responds =
      subst (λ ts. Solves ts (q.rank - 1) r) (sym (tasks_agree n m (sym same)))
      (subst (λ k. Solves (tasks_of m) (k - 1) r) (ap (λ (x : Process). x.rank) alike) responds)

  pub same_bound : (r : ℕ) → IsBound (tasks_of m) (p.rank - 1) r → IsBound (tasks_of n) (q.rank - 1) r
  same_bound r bound =
      subst (λ ts. IsBound ts (q.rank - 1) r) (sym (tasks_agree n m (sym same)))
      (subst (λ k. IsBound (tasks_of m) (k - 1) r) (ap (λ (x : Process). x.rank) alike) bound)
