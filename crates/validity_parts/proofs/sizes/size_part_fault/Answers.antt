use Rattle.std.proofs.Common.{ap, ◌∙◌}
use Rattle.image.specs.Raw.{image_of}
use Rattle.faulty_part.specs.declared.part.FaultyPart.TheVariants as part
use Rattle.faulty_part.specs.declared.part.Subject.TheVariants as subject
use Rattle.faulty_part.specs.Parts.{of}
use Rattle.validity_parts.proofs.Needs.{only_words, other_first}
use Rattle.validity_parts.proofs.sizes.size_part_fault.Goals as goal

pub returns-in-Some : goal.returns-in-Some
returns-in-Some c = other_first (image_of c.args.raw.now) _ c.in-Some.ensures

pub returns-in-None : goal.returns-in-None
returns-in-None c = c.named.ensures ∙ ap (of part.Whole subject.Words) c.size_fault.ensures ∙ only_words (image_of c.args.raw.now) c.in-None.ensures
