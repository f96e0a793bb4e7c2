use Rattle.std.proofs.Common.{sym, ◌∙◌}
use Rattle.std.proofs.lemmas.Bool.{false≢true}
use Rattle.table_reader.specs.Reading.{line_seen}
use Rattle.table_reader.proofs.Nexted.{not_read, not_formed, is_read}
use Rattle.table_reader.proofs.next.process_line.Goals as goal

pub returns-in-None : goal.returns-in-None
returns-in-None c = not_read c.args.line.now (rw c.in-None.is at c.in_ok-read_line.ensures)

pub returns-then-branch : goal.returns-then-branch
returns-then-branch c =
    is_read c.args.line.now (line_seen c.in-Some.words) (rw c.in-Some.is at c.in_ok-read_line.ensures) (c.in_ok-is_formed-in-Some.ensures.0 c.if-branch.true)

pub returns : goal.returns
returns c =
    not_formed c.args.line.now (line_seen c.in-Some.words) (rw c.in-Some.is at c.in_ok-read_line.ensures)
    (λ form. false≢true (sym c.if-branch.false ∙ c.in_ok-is_formed-in-Some.ensures.1 form))
