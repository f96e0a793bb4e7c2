use Rattle.std.proofs.Common.{◌∙◌}
use Rattle.image.specs.Raw.{monitor_of}
use Rattle.assembler.proofs.Rows.{as_many}
use Rattle.assembler.proofs.text.count_of.Goals as goal

pub returns : goal.returns
returns c = c.len.ensures ∙ as_many monitor_of c.args.monitors.now.names c.args.monitors.now.things c.requires
