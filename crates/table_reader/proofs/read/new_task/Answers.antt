use Rattle.std.proofs.Common.{◌+◌, arith}
use Rattle.table_format.specs.Faults.{meant}
use Rattle.table_reader.specs.Reading.{line_seen}
use Rattle.table_reader.proofs.Answered.{unmet, new_is}
use Rattle.table_reader.proofs.Blamed.{blamed, free_names}
use Rattle.table_reader.proofs.read.new_task.Goals as goal

pub returns-then-not-can_be_met : goal.returns-then-not-can_be_met
returns-then-not-can_be_met c =
    let t = c.args.table.now in
    let s = line_seen c.args.words.now in
    let free = free_names t (meant s) c.in_ok-number.field-0 c.in_default.not-Some c.in_ok-number.ensures in
    blamed t s c.bad-then-not-can_be_met.result 5 (c.len-line.result + 2) c.bad-then-not-can_be_met.ensures (omega arith)
    (unmet t s c.in-Some-2.task c.can_be_met.result free (rw c.in-Some-2.is at c.in_ok-task.ensures) c.if-not-can_be_met.true c.can_be_met.ensures)

pub returns : goal.returns
returns c =
    let t = c.args.table.now in
    let s = line_seen c.args.words.now in
    let free = free_names t (meant s) c.in_ok-number.field-0 c.in_default.not-Some c.in_ok-number.ensures in
    new_is t s c.in-Some-2.task c.can_be_met.result c.requires.formed free (rw c.in-Some-2.is at c.in_ok-task.ensures) c.if-not-can_be_met.false c.can_be_met.ensures
