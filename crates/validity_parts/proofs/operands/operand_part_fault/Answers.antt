use Rattle.std.proofs.Common.{ap, sym, ◌∙◌}
use Rattle.image.specs.Raw.{image_of}
use Rattle.loader_code.specs.Told.{told}
use Rattle.validity_parts.proofs.Owners.{no_operand}
use Rattle.validity_parts.proofs.operands.operand_part_fault.Goals as goal

pub returns-in-None : goal.returns-in-None
returns-in-None c = sym (no_operand (image_of c.args.raw.now) (ap told (sym c.in-None.is) ∙ c.in_ok-fault.ensures))
