use Rattle.std.proofs.Common.{length, refl}
use Rattle.std.proofs.lemmas.Option.{slice_get_read}
use Rattle.base.proofs.Lists.{map_get}
use Rattle.code_names.specs.Parts.{monitor_of}
use Rattle.analysis_command.proofs.naming.monitor_at.Goals as goal

pub returns : goal.returns
returns c = map_get monitor_of c.args.monitors.now c.args.number _ (slice_get_read c.args.monitors.now (length c.args.monitors.now) c.args.number _ refl c.requires c.index-monitors-number.is)
