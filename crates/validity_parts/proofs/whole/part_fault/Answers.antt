use Rattle.std.proofs.Common.{ap, sym, ◌∙◌}
use Rattle.image.specs.Raw.{image_of}
use Rattle.loader.specs.Verified.{shown_by}
use Rattle.validity_parts.proofs.Owners.{no_part}
use Rattle.validity_parts.proofs.whole.part_fault.Goals as goal

pub returns-in-None : goal.returns-in-None
returns-in-None c = no_part (image_of c.args.raw.now) (ap shown_by (sym c.in-None.is) ∙ c.in_ok-first_fault.ensures)
