use Rattle.std.proofs.Common.{None, sym, ◌∙◌, drop, ap, arith}
use Rattle.std.specs.Prelude.{not}
use Rattle.std.proofs.lemmas.List.{drop_all}
use Rattle.sched_table.specs.declared.table.Row.{Row}
use Rattle.sched_table.specs.Late.{late}
use Rattle.message_program.proofs.Passed.{name_taken, name_passed, row_passed, no_rows}
use Rattle.message_program.proofs.process.late_process.Goals as goal

abbrev no_row : Row
no_row = record { frame = 0; deadline = 0; rank = 0; cost = record { run = 0; susp = 0; waits = 0 }; block = 0; bound = None; size = record { words = 0; stack = 0 } }

pub returns-then-is_none-clause-name : goal.returns-then-is_none-clause-name
returns-then-is_none-clause-name c =
    c.process_at.ensures.name
    ∙ name_taken c.args.names.now c.args.rows.now c.loop-index.index no_row c.loop-index-test.true (c.is_none.ensures ∙ ap not c.if-is_none.true)
    ∙ c.loop-index.invariant.name

pub loop-index-preserved : goal.loop-index-preserved
loop-index-preserved c = record {
  name = name_passed c.args.names.now c.args.rows.now c.loop-index.index no_row c.loop-index-test.true (c.is_none.ensures ∙ ap not c.if-is_none.false) ∙ c.loop-index.invariant.name;
  row = row_passed c.args.rows.now c.loop-index.index no_row c.loop-index-test.true (c.is_none.ensures ∙ ap not c.if-is_none.false) ∙ c.loop-index.invariant.row;
}

pub returns-clause-name : goal.returns-clause-name
returns-clause-name c = sym (no_rows (drop c.loop-index.index c.args.names.now)) ∙ ap (λ rows. late (drop c.loop-index.index c.args.names.now) rows) (sym (drop_all c.loop-index.index c.args.rows.now (omega (arith, c.loop-index-test.false)))) ∙ c.loop-index.invariant.name
