-- A plan whose parts are made from an image is that of the image.
use Rattle.std.proofs.Common.{◌≡◌, ◌≤◌, ℕ, List, map, Some, refl, ap, subst, ◌∙◌}
use Rattle.std.specs.Prelude.{option_map, slice_get}
use Rattle.std.proofs.lemmas.List.Elements.{All-get_or}
use Rattle.std.proofs.lemmas.Option.{get_or_from_slice_get, slice_get-map, slice_get_within}
use Rattle.machine_semantics.specs.Image.{Image, Routine}
use Rattle.vm_plan.specs.HasPlan.{HasPlan}
use Rattle.vm_instructions.specs.Silent.{IsCalled}
use Rattle.vm_instructions.specs.declared.calls.RoutineHeader.{RoutineHeader as Called}
use Rattle.vm_plan.specs.Called.{called_of}

-- the parameters of a routine stand among its locals
order_of : (image : Image) (n : ℕ) (whole : Routine) → HasPlan image → slice_get image.routines n ≡ Some whole → whole.params ≤ whole.locals
order_of image n whole has at =
    let ordered = λ (r : Routine). r.params ≤ r.locals in
    subst ordered (get_or_from_slice_get image.routines n whole whole at) (All-get_or ordered image.routines n whole (slice_get_within image.routines n whole at) has.params)

-- a routine of the plan is that of the image
pub called_is : (image : Image) (called : List Called) → HasPlan image → called ≡ map called_of image.routines → (n : ℕ) (whole : Routine) → slice_get image.routines n ≡ Some whole
    → (r : Called) × (slice_get called n ≡ Some r) × IsCalled whole r
called_is image called has are n whole at = (
  called_of whole,
  ap (λ (rs : List Called). slice_get rs n) are ∙ (slice_get-map called_of image.routines n ∙ ap (λ o. option_map called_of o) at),
  record { params = refl; locals = refl; start = refl; order = order_of image n whole has at },
)
