use Rattle.std.proofs.Common.{◌≢◌, [], sym, ◌∙◌}
use Rattle.table_reader.specs.Reading.{stays_read}
use Rattle.table_reader.specs.Words.{left}
use Rattle.table_reader.proofs.Lines.{some_left}
use Rattle.table_reader.proofs.StaysRead.{read_more, read_none}
use Rattle.table_reader.proofs.line.read_stays.Goals as goal

pub returns-in-None : goal.returns-in-None
returns-in-None c =
    let some : left c.stays.at.rest ≢ [] = some_left c.stays.at.rest (sym c.is_some.ensures ∙ c.stays-test.true) in
    read_none c.stays.stays.items (left c.stays.at.rest) (stays_read (left c.args.words.rest)) some (sym c.in-None.ensures) c.stays.invariant

pub stays-preserved : goal.stays-preserved
stays-preserved c =
    let some : left c.stays.at.rest ≢ [] = some_left c.stays.at.rest (sym c.is_some.ensures ∙ c.stays-test.true) in
    let next = c.in-Some.next in
    read_more c.stays.stays.items c.push.new.self.items next.stay (left c.stays.at.rest) (left next.words.rest) (stays_read (left c.args.words.rest)) some (sym c.in-Some.ensures)
    c.in_ok-push-in-Some.ensures.items c.stays.invariant
