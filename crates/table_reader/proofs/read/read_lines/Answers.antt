use Rattle.std.proofs.Common.{◌+◌, ◌++◌, arith}
use Rattle.std.proofs.lemmas.Result.{err_from_is_err_and}
use Rattle.table_format.specs.Spelling.{lines_before_end, table_bytes}
use Rattle.table_reader.specs.Reading.{line_seen}
use Rattle.table_reader.proofs.Answered.{form_answer, line_answer}
use Rattle.table_reader.proofs.Endings.{answers_of, refuses, last_comes, process_comes}
use Rattle.table_reader.proofs.Texts.{last_read}
use Rattle.table_reader.proofs.read.read_lines.Goals as goal

pub returns-in-None : goal.returns-in-None
returns-in-None c =
    form_answer c.lines.table (lines_before_end c.args.table ++ c.args.rest.now) c.lines.bytes.now c.bad.result (c.len.result + 2) c.requires.short c.lines.invariant.begun c.lines.invariant.text
    (rw c.in-None.is at c.in_ok-next_line.ensures) c.bad.ensures (omega arith)

pub returns-in-Some-Last : goal.returns-in-Some-Last
returns-in-Some-Last c =
    let text = lines_before_end c.args.table ++ c.args.rest.now in
    let rest = c.in-Some-Last.rest in
    let comes = last_comes c.lines.bytes.now c.in_ok-next_line.field-0 c.in-Some-Last.field-0 rest c.in-Some-Last.is c.in-Some-Last.field-0-is c.in_ok-next_line.ensures in
    answers_of text (table_bytes c.lines.table ++ rest.now) c.end_of.result (last_read c.lines.table text c.lines.bytes.now rest.now c.lines.invariant.text comes) c.end_of.ensures

pub returns-in_err-add_line-in-Some-Process : goal.returns-in_err-add_line-in-Some-Process
returns-in_err-add_line-in-Some-Process c =
    let text = lines_before_end c.args.table ++ c.args.rest.now in
    let words = c.in-Some-Process.words in
    let rest = c.in-Some-Process.rest in
    let comes = process_comes c.lines.bytes.now c.in_ok-next_line.field-0 c.in-Some-Process.field-0 words rest c.in-Some-Process.is c.in-Some-Process.field-0-is c.in_ok-next_line.ensures in
    let fault = c.in_err-add_line-in-Some-Process.field-0.0 in
    let wrong = line_answer c.lines.table (line_seen words) text c.lines.bytes.now rest.now fault c.requires.short c.lines.invariant.begun c.lines.invariant.text comes.0 comes.1 c.in_err-add_line-in-Some-Process.ensures.err in
    let given = err_from_is_err_and c.from_residual-in_err-add_line-in-Some-Process.result c.from_residual-in_err-add_line-in-Some-Process.ensures.1 in
    refuses text c.from_residual-in_err-add_line-in-Some-Process.result given.0 fault given.1 given.2 wrong
