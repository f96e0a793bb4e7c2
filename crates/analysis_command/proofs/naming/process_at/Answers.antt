use Rattle.std.proofs.Common.{length, refl}
use Rattle.std.proofs.lemmas.Option.{slice_get_read}
use Rattle.base.proofs.Lists.{map_get}
use Rattle.code_names.specs.Parts.{process_of}
use Rattle.analysis_command.proofs.naming.process_at.Goals as goal

pub returns : goal.returns
returns c = map_get process_of c.args.processes.now c.args.number _ (slice_get_read c.args.processes.now (length c.args.processes.now) c.args.number _ refl c.requires c.index-processes-number.is)
