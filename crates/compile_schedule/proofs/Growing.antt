-- Bounds, one more of a list at a time.
use Rattle.std.specs.Prelude.{◌≡◌, ◌<◌, ◌≤◌, ◌+◌, ◌-◌, ◌++◌, ℕ, List, [], ◌∷◌, Option, Some, None, IsSome, length, map, min, slice_get}
use Rattle.std.proofs.Common.{refl, sym, ap, subst, ◌∙◌, arith, get_or}
use Rattle.std.proofs.lemmas.List.{length-map}
use Rattle.std.proofs.lemmas.Option.{slice_get-get_or, slice_get_within}
use Rattle.base.proofs.Lists.{one_longer, map_get}
use Rattle.sched_response.specs.declared.tasks.Task.{Task}
use Rattle.sched_response.specs.Demand.{deadline_at, IsBound}
use Rattle.machine_semantics.specs.Image.{Image, Process}
use Rattle.image.specs.declared.raw.RawImage.{RawImage}
use Rattle.image.specs.declared.raw.RawProcess.{RawProcess}
use Rattle.image.specs.Raw.{image_of, process_of}
use Rattle.valid_image.specs.Tasks.{tasks_of}
use Rattle.sched_table.specs.Table.{IsBoundAt}
use Rattle.built_image.specs.Filled.{without_bound, without_bounds}
use Rattle.built_image.specs.Shown.{AreLeast}
use Rattle.built_image_law.specs.Filled.{Each}
use Rattle.built_image_law.proofs.Lists.{through, each_mapped, each_more, none_yet}
use Rattle.built_image_law.proofs.Tasks.{least_is_kept}
use Rattle.compile_schedule.specs.Bounding.{but_bound, AreBounded, HasBounds, KeepsLeast}

-- the least bound is no longer than the limit
pub within_limit : (ts : List Task) (level found bound limit : ℕ) → IsBound ts level bound → limit ≡ deadline_at ts level → found ≡ min bound limit → IsBound ts level found
within_limit ts level found bound limit least is short =
    let low : bound ≤ deadline_at ts level = least.solves.within in
    let same : bound ≡ found = omega (arith, low, is, short) in
    subst (λ b. IsBound ts level b) same least

inner : {A : Type 0} (a b : A) (o : Option A) → o ≡ Some a → o ≡ Some b → a ≡ b
inner a b o one two = cc

-- ---- least bounds

-- the bound is that of the rank of process k
abbrev pub IsBoundOf : Image → ℕ → Option ℕ → Type 0
IsBoundOf m k b = (p : Process) → slice_get m.processes k ≡ Some p → IsBoundAt (tasks_of m) (p.rank - 1) b

pub record LeastSoFar (m : Image) (i : ℕ) (bounds : List (Option ℕ)) : Type 0 where
  pub long : length bounds ≡ i
  pub each : Each (IsBoundOf m) bounds

pub one_bound : (image : RawImage) (ts : List Task) (i : ℕ) (old new : List (Option ℕ)) (p : RawProcess) (b : Option ℕ) → i < length image.processes → p ≡ get_or image.processes i p → ts ≡ tasks_of (image_of image)
    → IsBoundAt ts (p.rank - 1) b → new ≡ old ++ b ∷ [] → LeastSoFar (image_of image) i old → LeastSoFar (image_of image) (i + 1) new
one_bound image ts i old new p b low at tasks is grown so_far = record {
  long = one_longer old new b i so_far.long grown;
  each = each_more (IsBoundOf (image_of image)) old new i b so_far.long grown so_far.each (λ q there.
      let here : slice_get (map process_of image.processes) i ≡ Some (process_of p) = map_get process_of image.processes i p (slice_get-get_or image.processes i p low ∙ ap (λ x. Some x) (sym at)) in
      subst (λ ts. IsBoundAt ts (q.rank - 1) b) tasks
      (subst (λ (x : Process). IsBoundAt ts (x.rank - 1) b) (inner (process_of p) q (slice_get (map process_of image.processes) i) here there) is));
}

pub none_bounds : (m : Image) (bounds : List (Option ℕ)) → bounds ≡ [] → LeastSoFar m 0 bounds
none_bounds m bounds none = subst (LeastSoFar m 0) (sym none) (record { long = refl; each = none_yet (IsBoundOf m) })

pub all_bounds : (image : RawImage) (i : ℕ) (bounds : List (Option ℕ)) → i ≡ length image.processes → LeastSoFar (image_of image) i bounds → AreLeast (image_of image) bounds
all_bounds image i bounds past so_far = record {
  one_each = so_far.long ∙ (past ∙ sym (length-map image.processes process_of));
  each = λ k p b at there. so_far.each k b there p at;
}

-- ---- images

pub image_bounded : (before : RawImage) (bounds : List (Option ℕ)) (processes : List RawProcess) → AreBounded bounds before.processes processes
    → without_bounds (record (image_of before) { processes = map process_of processes }) ≡ without_bounds (image_of before)
image_bounded before bounds processes are =
    ap (λ v. record (image_of before) { processes = v })
    (through process_of without_bound but_bound (λ p. refl) processes ∙ (are.same ∙ sym (through process_of without_bound but_bound (λ p. refl) before.processes)))

pub bounds_set : (bounds : List (Option ℕ)) (before now : RawImage) → AreBounded bounds before.processes now.processes → HasBounds (image_of now) bounds
bounds_set bounds before now are k p b at there = each_mapped process_of (λ i q. (c : ℕ) → slice_get bounds i ≡ Some (Some c) → q.bound ≡ c) now.processes are.bounds k p at b there

-- where each is there, each process has its least bound
pub least_set : (m n : Image) (bounds : List (Option ℕ)) → without_bounds n ≡ without_bounds m → HasBounds n bounds → KeepsLeast m bounds n
least_set m n bounds same set least all k p at =
    let kept = least_is_kept n m bounds same least in
    let low : k < length n.processes = slice_get_within n.processes k p at in
    let below : k < length bounds = omega (arith, low, kept.one_each) in
    one kept (get_or bounds k None) (slice_get-get_or bounds k None below) (all k None below)
  where
    one : AreLeast n bounds → (o : Option ℕ) → slice_get bounds k ≡ Some o → IsSome o → IsBound (tasks_of n) (p.rank - 1) p.bound
    one kept None there some = absurd (cc)
    one kept (Some b) there some = subst (λ r. IsBound (tasks_of n) (p.rank - 1) r) (sym (set k p b at there)) (kept.each k p (Some b) at there)
