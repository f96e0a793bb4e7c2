use Rattle.table_reader.specs.Reading.{line_seen}
use Rattle.table_reader.proofs.Nexted.{no_feed_left, no_next, next_is}
use Rattle.table_reader.proofs.Texts.{last_is}
use Rattle.table_reader.proofs.next.next_line.Goals as goal

pub returns-in_default : goal.returns-in_default
returns-in_default c = no_feed_left c.args.bytes.now c.in_default.ensures.none

pub returns-then-is_same : goal.returns-then-is_same
returns-then-is_same c =
    let cut = c.in-Some.cut in
    last_is c.args.bytes.now cut.before.now cut.after.now c.in-Some.ensures.found (c.is_same.ensures.yes c.if-is_same.true)

pub returns-in-None : goal.returns-in-None
returns-in-None c =
    let cut = c.in-Some.cut in
    no_next c.args.bytes.now cut.before.now cut.after.now c.in-Some.ensures.found (c.is_same.ensures.no c.if-is_same.false) (rw c.in-None.is at c.in_ok-process_line.ensures)

pub returns-in-Some-2 : goal.returns-in-Some-2
returns-in-Some-2 c =
    let cut = c.in-Some.cut in
    next_is c.args.bytes.now cut.before.now cut.after.now (line_seen c.in-Some-2.words) c.in-Some.ensures.found (rw c.in-Some-2.is at c.in_ok-process_line.ensures)
