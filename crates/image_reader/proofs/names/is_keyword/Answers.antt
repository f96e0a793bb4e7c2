use Rattle.std.proofs.Common.{sym}
use Rattle.syntax.specs.Spellings.{keywords}
use Rattle.image_reader.proofs.Words.{has_got, has_not}
use Rattle.image_reader.proofs.names.is_keyword.Goals as goal

pub returns-in-Some : goal.returns-in-Some
returns-in-Some c = sym (has_got keywords c.in-Some.field-0 c.args.name.now c.in-Some.ensures.found)

pub returns-in-None : goal.returns-in-None
returns-in-None c = sym (has_not keywords c.args.name.now c.in-None.ensures.none)
