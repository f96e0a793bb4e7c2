use Rattle.edf_command.proofs.running.refuse_unfit.Goals as goal

pub report-requires : goal.report-requires
report-requires c = c.requires.1.valid.written.names.each_process
