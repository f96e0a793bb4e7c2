use Rattle.std.proofs.Common.{ℕ, List, Option, refl, subst}
use Rattle.image.specs.declared.raw.RawImage.{RawImage}
use Rattle.image.specs.Raw.{image_of}
use Rattle.compile_schedule.specs.Bounding.{AreBounded}
use Rattle.compile_schedule.proofs.Growing.{image_bounded, bounds_set, least_set}
use Rattle.compile_schedule.proofs.with_bounds_filled.with_bounds.Goals as goal

pub returns : goal.returns
returns c =
    let processes = c.bounded.result in
    let now : RawImage = record c.args.image { processes = processes } in
    let are : AreBounded c.args.bounds.now c.args.image.processes processes =
    subst (λ (bs : List (Option ℕ)). AreBounded bs c.args.image.processes processes) c.as_slice.ensures c.bounded.ensures in
    let same = image_bounded c.args.image c.args.bounds.now processes are in
    record {
      same = record { program = refl; names = refl; image = same };
      bounds = bounds_set c.args.bounds.now c.args.image now are;
      least = least_set (image_of c.args.image) (image_of now) c.args.bounds.now same (bounds_set c.args.bounds.now c.args.image now are);
    }
