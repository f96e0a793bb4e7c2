-- The image of a program with deadlines for bounds is one.
use Rattle.std.proofs.Common.{◌≡◌, ℕ, List, Some, map, ap, sym, ◌∙◌}
use Rattle.std.specs.Prelude.{slice_get}
use Rattle.base.proofs.Lists.{same_elements}
use Rattle.machine_semantics.specs.Image.{Image, Process}
use Rattle.built_image.specs.Filled.{without_bound, without_bounds}
use Rattle.built_image_law.proofs.Lists.{as_many, same_at}
use Rattle.built_image_law.specs.FilledLaws.{ShapesAgree}
use Rattle.command_due.specs.Image.{HasDeadlinesAsBounds}
use Rattle.command_due_law.specs.EdfDueOnce.{EdfImagesAreOne}
use Rattle.built_image_law.proofs.Images.{one_process, found}

module _ (m n : Image) (same : without_bounds m ≡ without_bounds n) (due : HasDeadlinesAsBounds m) (due_too : HasDeadlinesAsBounds n) where
  become_same : map without_bound m.processes ≡ map without_bound n.processes
  become_same = ap (λ (i : Image). i.processes) same

  each_is_one : (k : ℕ) (p q : Process) → slice_get m.processes k ≡ Some p → slice_get n.processes k ≡ Some q → p ≡ q
  each_is_one k p q at there =
      let x = same_at without_bound m.processes n.processes k q become_same there in
      let alike : without_bound p ≡ without_bound q = ap without_bound (found (slice_get m.processes k) p x.0 at x.1) ∙ x.2 in
      one_process p q alike (due k p at ∙ (ap (λ (y : Process). y.deadline) alike ∙ sym (due_too k q there)))

  one_image : m ≡ n
  one_image =
      ap (λ (i : Image). record i { processes = m.processes }) same
      ∙ ap (λ (ps : List Process). record n { processes = ps })
      (same_elements m.processes n.processes (as_many without_bound m.processes n.processes become_same) each_is_one)

pub images_are_one : ShapesAgree → EdfImagesAreOne
images_are_one shapes g m n one two =
    let programs : m.program ≡ n.program = one.program ∙ sym two.program in
    let names : m.names ≡ n.names = one.names ∙ sym two.names in
    let images : m.image ≡ n.image = one_image m.image n.image (shapes g 0 n.image m.image two.shaped one.shaped) one.bounds two.bounds in
    λ i. record { program = programs i; names = names i; image = images i }
