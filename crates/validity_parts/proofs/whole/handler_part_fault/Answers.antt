use Rattle.image.specs.Raw.{image_of}
use Rattle.validity_parts.proofs.Owners.{handler_named, no_handler}
use Rattle.validity_parts.proofs.whole.handler_part_fault.Goals as goal

pub returns-in-Some : goal.returns-in-Some
returns-in-Some c = handler_named (image_of c.args.raw.now) (record { a = c.in-Some.fault.a; b = c.in-Some.fault.b }) c.in-Some.ensures

pub returns : goal.returns
returns c = no_handler (image_of c.args.raw.now) c.in-None.ensures
