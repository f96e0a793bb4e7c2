-- What is built, and its table.
use Rattle.std.specs.Prelude.{◌≡◌, ◌-◌, ℕ, Option, Some, List, slice_get}
use Rattle.std.proofs.Common.{refl, sym, ap, subst, ◌∙◌}
use Rattle.std.proofs.lemmas.List.{length-map}
use Rattle.base.proofs.Lists.{map_get}
use Rattle.machine_semantics.specs.Image.{Process}
use Rattle.valid_image.specs.Tasks.{tasks_of}
use Rattle.sched_table.specs.Table.{IsBoundAt}
use Rattle.built_image_law.specs.Filled.{declared_bounds}
use Rattle.built_image_law.specs.FilledLaws.{BoundedImagesAreBuilt, BuiltImagesHaveTheTable}
use Rattle.built_image_law.proofs.Tasks.{least_is_kept}
use Rattle.built_image_law.proofs.Shapes.{shapes_leave_bounds_aside}

abbrev bound_there : Process → Option ℕ
bound_there p = Some p.bound

inner : (a b : Option ℕ) (o : Option (Option ℕ)) → o ≡ Some a → o ≡ Some b → a ≡ b
inner a b o one two = cc

pub bounded_images_are_built : BoundedImagesAreBuilt
bounded_images_are_built g over m bounds n shaped least program names same declared = record {
  program = program;
  names = names;
  shaped = shapes_leave_bounds_aside g over m n.image shaped same;
  bounds = λ k p at.
      (least_is_kept n.image m bounds same least).each k p (Some p.bound) at
      (ap (λ (bs : List (Option ℕ)). slice_get bs k) (sym declared) ∙ map_get bound_there n.image.processes k p at);
}

pub built_images_have_the_table : BuiltImagesHaveTheTable
built_images_have_the_table g over n built = record {
  image = n.image;
  shaped = built.shaped;
  bounds = declared_bounds n.image;
  least = record {
    one_each = length-map n.image.processes bound_there;
    each = λ k p b at there.
        subst (λ o. IsBoundAt (tasks_of n.image) (p.rank - 1) o)
        (inner (Some p.bound) b (slice_get (declared_bounds n.image) k) (map_get bound_there n.image.processes k p at) there) (built.bounds k p at);
  };
  is = refl;
}
