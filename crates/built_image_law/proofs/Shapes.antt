-- What is shaped.
use Rattle.std.specs.Prelude.{◌≡◌}
use Rattle.std.proofs.Common.{ap, ◌∙◌}
use Rattle.machine_semantics.specs.Image.{Image}
use Rattle.codegen_spec.specs.Parts.{program_made}
use Rattle.built_image_law.specs.FilledLaws.{RankedImagesAreShaped, ShapesLeaveBoundsAside}
use Rattle.built_image_law.proofs.Ranked.{ranks_aside, blocks_aside, ranks_are_kept}
use Rattle.built_image_law.proofs.Held.{holds_agree, declares_agree}

pub ranked_images_are_shaped : RankedImagesAreShaped
ranked_images_are_shaped g over m n ticks holds declares same ranks = record {
  overhead = ap (λ (i : Image). i.over) same ∙ ticks;
  code = holds_agree g (program_made g) n m same holds;
  declares = declares_agree g n m same declares;
  ranks = ranks;
}

pub shapes_leave_bounds_aside : ShapesLeaveBoundsAside
shapes_leave_bounds_aside g over m n shaped same = record {
  overhead = ap (λ (i : Image). i.over) same ∙ shaped.overhead;
  code = holds_agree g (program_made g) n m (ranks_aside n m (blocks_aside n m same)) shaped.code;
  declares = declares_agree g n m (ranks_aside n m (blocks_aside n m same)) shaped.declares;
  ranks = ranks_are_kept n m same shaped.ranks;
}
