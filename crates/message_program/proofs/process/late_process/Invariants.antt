use Rattle.std.proofs.Common.{◌≡◌, drop}
use Rattle.sched_table.specs.Late.{late}
use Rattle.message_program.specs.Late.{late_row}
use Rattle.message_program.proofs.process.late_process.Given as goal

abbrev pub invariant-loop-index : goal.invariant-loop-index
invariant-loop-index l = record {
  name : late (drop l.index l.names) (drop l.index l.rows) ≡ late l.names l.rows;
  row : late_row (drop l.index l.rows) ≡ late_row l.rows;
}
