-- The image of a program, with its bounds, is one; and where it has one, the program is not late.
use Rattle.std.proofs.Common.{◌≡◌, ◌-◌, ℕ, List, Option, Some, map, ap, sym, ◌∙◌}
use Rattle.std.specs.Prelude.{slice_get}
use Rattle.base.proofs.Lists.{same_elements}
use Rattle.machine_semantics.specs.Image.{Image, Process}
use Rattle.valid_image.specs.Tasks.{tasks_of}
use Rattle.built_image.specs.Built.{HasLeastBounds}
use Rattle.built_image.specs.Filled.{without_bound, without_bounds}
use Rattle.built_image_law.proofs.Lists.{as_many, same_at}
use Rattle.built_image_law.specs.FilledLaws.{ShapesAgree}
use Rattle.built_image_law.specs.Once.{BuiltImagesAreOne, TimelyOrLate}
use Rattle.built_image_law.proofs.Bounds.{one_bound, same_responses, same_bound}

pub one_process : (p q : Process) → without_bound p ≡ without_bound q → p.bound ≡ q.bound → p ≡ q
one_process p q alike bounds = ap (λ (x : Process). record x { bound = p.bound }) alike ∙ ap (λ b. record q { bound = b }) bounds

pub found : {A : Type 0} (o : Option A) (x y : A) → o ≡ Some x → o ≡ Some y → x ≡ y
found o x y one two = cc

module _ (m n : Image) (same : without_bounds m ≡ without_bounds n) (least : HasLeastBounds m) (lowest : HasLeastBounds n) where
  become_same : map without_bound m.processes ≡ map without_bound n.processes
  become_same = ap (λ (i : Image). i.processes) same

  each_is_one : (k : ℕ) (p q : Process) → slice_get m.processes k ≡ Some p → slice_get n.processes k ≡ Some q → p ≡ q
  each_is_one k p q at there =
      let x = same_at without_bound m.processes n.processes k q become_same there in
      let alike : without_bound p ≡ without_bound q = ap without_bound (found (slice_get m.processes k) p x.0 at x.1) ∙ x.2 in
      one_process p q alike (one_bound (tasks_of n) (q.rank - 1) p.bound q.bound (same_bound m n same p q alike p.bound (least k p at)) (lowest k q there))

  one_image : m ≡ n
  one_image =
      ap (λ (i : Image). record i { processes = m.processes }) same
      ∙ ap (λ (ps : List Process). record n { processes = ps })
      (same_elements m.processes n.processes (as_many without_bound m.processes n.processes become_same) each_is_one)

pub built_images_are_one : ShapesAgree → BuiltImagesAreOne
built_images_are_one shapes g over m n one two =
    let programs : m.program ≡ n.program = one.program ∙ sym two.program in
    let names : m.names ≡ n.names = one.names ∙ sym two.names in
    let images : m.image ≡ n.image = one_image m.image n.image (shapes g over n.image m.image two.shaped one.shaped) one.bounds two.bounds in
    λ i. record { program = programs i; names = names i; image = images i }

pub timely_or_late : ShapesAgree → TimelyOrLate
timely_or_late shapes g over n built late =
    let same : without_bounds n.image ≡ without_bounds late.image = shapes g over late.image n.image late.shaped built.shaped in
    let x = same_at without_bound n.image.processes late.image.processes late.number late.process (ap (λ (i : Image). i.processes) same) late.there in
    late.unsolved x.0.bound (same_responses n.image late.image same x.0 late.process x.2 x.0.bound (built.bounds late.number x.0 x.1).solves)
