-- A program is timely where its least bounds are all there, and late where one is not.
use Rattle.std.specs.Prelude.{◌≡◌, ◌<◌, ◌-◌, ℕ, List, Option, Some, None, All, IsSome, length, slice_get}
use Rattle.std.proofs.Common.{refl, sym, ap, subst, ◌∙◌, arith, get_or}
use Rattle.std.proofs.lemmas.Option.{slice_get-get_or, slice_get_within}
use Rattle.base.proofs.Lists.{some_at}
use Rattle.syntax_tree.specs.Plain.{Program}
use Rattle.machine_semantics.specs.Image.{Image, Process}
use Rattle.valid_image.specs.Tasks.{tasks_of}
use Rattle.sched_table.specs.Table.{IsBoundAt}
use Rattle.built_image.specs.Built.{IsShaped, Responds, IsTimely, IsLate}
use Rattle.built_image.specs.Shown.{AreLeast}
use Rattle.built_image_law.specs.FilledLaws.{TimelyWhereAllAreThere, LateWhereOneIsNone}
use Rattle.built_image_law.proofs.Tasks.{least_is_kept}
use Rattle.built_image_law.proofs.Agreeing.{shapes_agree}

module _ (m : Image) (bounds : List (Option ℕ)) (least : AreLeast m bounds) where
  pub solved : (k : ℕ) (p : Process) (b : Option ℕ) → slice_get m.processes k ≡ Some p → slice_get bounds k ≡ Some b → IsSome b → (r : ℕ) × Responds m p r
  solved k p None at there some = absurd (cc)
  solved k p (Some r) at there some = (r, (least.each k p (Some r) at there).solves)

  pub all_solved : All IsSome bounds → (k : ℕ) (p : Process) → slice_get m.processes k ≡ Some p → (r : ℕ) × Responds m p r
  all_solved all k p at =
      let low : k < length m.processes = slice_get_within m.processes k p at in
      let below : k < length bounds = omega (arith, low, least.one_each) in
      solved k p (get_or bounds k None) at (slice_get-get_or bounds k None below) (all k None below)

  pub found : (k : ℕ) (p : Process) (b : Option ℕ) → slice_get m.processes k ≡ Some p → slice_get bounds k ≡ Some b → (r : ℕ) → Responds m p r → IsSome b
  found k p None at there r responds = absurd (least.each k p None at there r responds)
  found k p (Some b) at there r responds = refl

  pub all_found : ((k : ℕ) (p : Process) → slice_get m.processes k ≡ Some p → (r : ℕ) × Responds m p r) → All IsSome bounds
  all_found each k d below =
      let p = some_at m.processes k (omega (arith, below, least.one_each)) in
      let r = each k p.0 p.1 in
      found k p.0 (get_or bounds k d) p.1 (slice_get-get_or bounds k d below) r.0 r.1

  pub unsolved : (k : ℕ) (p : Process) (b : Option ℕ) → slice_get m.processes k ≡ Some p → slice_get bounds k ≡ Some b → ((r : ℕ) → ¬ Responds m p r) → slice_get bounds k ≡ Some None
  unsolved k p None at there none = there
  unsolved k p (Some r) at there none = absurd (none r (least.each k p (Some r) at there).solves)

  pub one_unsolved : (k : ℕ) (p : Process) → slice_get m.processes k ≡ Some p → ((r : ℕ) → ¬ Responds m p r) → slice_get bounds k ≡ Some None
  one_unsolved k p at none =
      let low : k < length m.processes = slice_get_within m.processes k p at in
      let below : k < length bounds = omega (arith, low, least.one_each) in
      unsolved k p (get_or bounds k None) at (slice_get-get_or bounds k None below) none

  pub one_late : (k : ℕ) → slice_get bounds k ≡ Some None → (p : Process) × (slice_get m.processes k ≡ Some p) × ((r : ℕ) → ¬ Responds m p r)
  one_late k none =
      let low : k < length bounds = slice_get_within bounds k None none in
      let p = some_at m.processes k (omega (arith, low, least.one_each)) in
      (p.0, p.1, least.each k p.0 None p.1 none)

pub timely_where_all_are_there : TimelyWhereAllAreThere
timely_where_all_are_there g over m bounds shaped least = (there, back) where
  there : IsTimely g over → All IsSome bounds
  there timely = all_found timely.image bounds (least_is_kept timely.image m bounds (shapes_agree g over m timely.image shaped timely.shaped) least) timely.each

  back : All IsSome bounds → IsTimely g over
  back all = record { image = m; shaped = shaped; each = all_solved m bounds least all }

pub late_where_one_is_none : LateWhereOneIsNone
late_where_one_is_none g over m bounds shaped least = (there, back) where
  there : IsLate g over → (k : ℕ) × (slice_get bounds k ≡ Some None)
  there late = (
    late.number,
    one_unsolved late.image bounds (least_is_kept late.image m bounds (shapes_agree g over m late.image shaped late.shaped) least) late.number late.process late.there late.unsolved,
  )

  back : ((k : ℕ) × (slice_get bounds k ≡ Some None)) → IsLate g over
  back none =
      let p = one_late m bounds least none.0 none.1 in
      record { image = m; shaped = shaped; number = none.0; process = p.0; there = p.1; unsolved = p.2 }
