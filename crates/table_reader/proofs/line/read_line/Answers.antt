use Rattle.std.proofs.Common.{Some, None, map}
use Rattle.table_reader.specs.Reading.{head_seen, stay_of}
use Rattle.table_reader.proofs.Lines.{line_from, no_head}
use Rattle.table_reader.proofs.line.read_line.Goals as goal

pub returns-in_default : goal.returns-in_default
returns-in_default c = no_head c.args.line.now c.in_default.ensures

pub returns-in-None : goal.returns-in-None
returns-in-None c = line_from c.args.line.now (head_seen c.in-Some.front) None c.in-Some.ensures (rw c.in-None.is at c.in_ok-read_stays.ensures)

pub returns-in-Some-2 : goal.returns-in-Some-2
returns-in-Some-2 c =
    line_from c.args.line.now (head_seen c.in-Some.front) (Some (map stay_of c.in-Some-2.stays.items)) c.in-Some.ensures (rw c.in-Some-2.is at c.in_ok-read_stays.ensures)
