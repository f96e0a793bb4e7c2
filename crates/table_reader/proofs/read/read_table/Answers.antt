use Rattle.std.proofs.Common.{◌≤◌, length, refl, arith}
use Rattle.table_format.specs.Rules.{longest_text}
use Rattle.table_reader.proofs.Answered.{no_name_fault}
use Rattle.table_reader.proofs.Endings.{fault_is}
use Rattle.table_reader.proofs.read.read_table.Goals as goal

pub returns-then-not-is_name : goal.returns-then-not-is_name
returns-then-not-is_name c =
    let text = c.args.text.now in
    let short : length c.args.text.now ≤ longest_text = omega (arith, c.if-text-gt-LONGEST_TABLE.false) in
    fault_is text c.bad-then-not-is_name.result 2 1 1 c.bad-then-not-is_name.ensures refl
    (no_name_fault text c.in-Some.first.name.now c.in-Some.first.rest.now c.is_name.result short c.in-Some.ensures c.if-not-is_name.true c.is_name.ensures)
