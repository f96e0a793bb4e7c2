use Rattle.std.proofs.Common.{◌∙◌}
use Rattle.script.proofs.numbers.find_later.Goals as goal

pub returns : goal.returns
returns c = c.copied.ensures ∙ c.get.ensures.value
