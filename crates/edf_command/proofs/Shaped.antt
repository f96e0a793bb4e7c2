-- With deadlines for bounds, the image of a program is that of earliest deadline first.
use Rattle.std.proofs.Common.{◌≡◌, ◌∙◌, ℕ, List, Option, Some, map, sym, ap}
use Rattle.std.specs.Prelude.{slice_get}
use Rattle.base.proofs.Lists.{map_get}
use Rattle.syntax_tree.specs.declared.place.Place.{Place}
use Rattle.syntax_tree.specs.Placed.{Prog, plain}
use Rattle.machine_semantics.specs.Image.{Image, Process}
use Rattle.image.specs.declared.raw.RawImage.{RawImage}
use Rattle.image.specs.Raw.{image_of, named_of, process_of}
use Rattle.image.specs.Named.{NamedImage}
use Rattle.image_loaded.specs.Shape.{IsShape}
use Rattle.front_end.specs.Program.{IsProgramOf}
use Rattle.edf_correct.specs.Admitted.{EdfImagesAreShapes}
use Rattle.built_image.specs.Built.{IsShaped}
use Rattle.built_image.specs.Filled.{DiffersInBounds, without_bound}
use Rattle.built_image_law.specs.FilledLaws.{ShapesLeaveBoundsAside}
use Rattle.built_image_law.proofs.Lists.{same_at}
use Rattle.compile_schedule.specs.Bounding.{HasBounds}
use Rattle.compile.specs.Steps.{IsRanked}
use Rattle.edf_command.specs.Steps.{due_of, IsEdfShape}

module _ (leave_law : ShapesLeaveBoundsAside) (g : Prog Place) (before now : RawImage) (bounds : List (Option ℕ)) (ranked : IsRanked g 0 before)
    (are : bounds ≡ map due_of (map process_of before.processes)) (same : DiffersInBounds (named_of before) (named_of now)) (has : HasBounds (image_of now) bounds) where
  processes : map without_bound (map process_of before.processes) ≡ map without_bound (map process_of now.processes)
  processes = sym (ap (λ (m : Image). m.processes) same.image)

  -- the process of the number before
  record Was (k : ℕ) (p : Process) : Type 0 where
    q : Process
    at : slice_get (map process_of before.processes) k ≡ Some q
    is : without_bound q ≡ without_bound p

  was : (k : ℕ) (p : Process) → slice_get (map process_of now.processes) k ≡ Some p → Was k p
  was k p at =
      let found = same_at without_bound (map process_of before.processes) (map process_of now.processes) k p processes at in
      record { q = found.0; at = found.1; is = found.2 }

  deadline_is : (k : ℕ) (p : Process) → slice_get (map process_of now.processes) k ≡ Some p → p.bound ≡ p.deadline
  deadline_is k p at =
      let w : Was k p = was k p at in
      let there : slice_get bounds k ≡ Some (Some w.q.deadline) = ap (λ (bs : List (Option ℕ)). slice_get bs k) are ∙ map_get due_of (map process_of before.processes) k w.q w.at in
      has k p w.q.deadline at there ∙ ap (λ (x : Process). x.deadline) w.is

  shaped : IsShaped (plain g) 0 (image_of now)
  shaped = leave_law (plain g) 0 (image_of before) (image_of now) ranked.shaped same.image

  pub is_shape : IsEdfShape g (named_of now)
  is_shape = record {
    fits = ranked.fits;
    image = record { program = same.program ∙ ranked.program; names = same.names ∙ ranked.names; shaped = shaped; bounds = deadline_is };
  }

-- it is one that can be kept as its bytes, and judged
pub shape_is_kept : EdfImagesAreShapes → (text : List ℕ) (g : Prog Place) (n : NamedImage) → IsProgramOf text g → IsEdfShape g n → IsShape n
shape_is_kept law text g n program shape = law text g n (record { program = program; fits = shape.fits }) shape.image
