use Rattle.std.proofs.Common.{◌-◌, ℕ, arith, sym, subst}
use Rattle.vm_state.specs.Board.{state_of}
use Rattle.vm_runner.proofs.Rowing.{Ran, can_end, can_run, enough, ran, row_passes, row_queued, row_starts, words_count}
use Rattle.vm_runner.proofs.turn.pass_row.Goals as goal

pub run_row-halt-requires : goal.run_row-halt-requires
run_row-halt-requires g c =
    let can = c.requires.0 in
    let s = state_of c.args.board.now in
    let starts = row_starts g.course can.goes c.args.tick c.args.most c.args.who s can.begun can.chosen (words_count g.course.image c.args.board.now can.board) can.quiet c.requires.1.0 in
    (can.plan, (can.board, can_run g.course can.goes c.args.tick c.args.most c.args.who s can.begun starts))

pub overflow_sub-ticks : goal.overflow_sub-ticks
overflow_sub-ticks g c =
    let can = c.requires.0 in
    let s = state_of c.args.board.now in
    let starts = row_starts g.course can.goes c.args.tick c.args.most c.args.who s can.begun can.chosen (words_count g.course.image c.args.board.now can.board) can.quiet c.requires.1.0 in
    let e = enough g.course c.args.tick c.args.most c.args.who s (state_of c.run_row-halt.new.board) c.run_row-halt.result can.begun starts c.run_row-halt.ensures.ran in
    omega (arith, e, c.unspent.ensures)

pub overflow_sub-ticks-2 : goal.overflow_sub-ticks-2
overflow_sub-ticks-2 g c =
    let can = c.requires.0 in
    let s = state_of c.args.board.now in
    let starts = row_starts g.course can.goes c.args.tick c.args.most c.args.who s can.begun can.chosen (words_count g.course.image c.args.board.now can.board) can.quiet c.requires.1.0 in
    let r = ran g.course can.goes c.args.tick c.args.most c.args.who s (state_of c.run_row-halt.new.board) c.run_row-halt.result can.some can.begun starts c.run_row-halt.ensures.ran in
    let some = r.row.some in
    omega (arith, some, c.unspent.ensures)

pub end_row-requires : goal.end_row-requires
end_row-requires g c =
    let can = c.requires.0 in
    let s = state_of c.args.board.now in
    let s' = state_of c.run_row-halt.new.board in
    let h = c.run_row-halt.result in
    let starts = row_starts g.course can.goes c.args.tick c.args.most c.args.who s can.begun can.chosen (words_count g.course.image c.args.board.now can.board) can.quiet c.requires.1.0 in
    let r = ran g.course can.goes c.args.tick c.args.most c.args.who s s' h can.some can.begun starts c.run_row-halt.ensures.ran in
    let some = r.row.some in
    let end = can.end in (
      can.plan,
      (
        c.run_row-halt.ensures.kept,
        (
          row_queued g.course c.args.tick c.args.most c.args.who _ h s' starts r (can.goes.still_queued c.args.tick),
          (can_end g.course can.goes c.args.tick c.args.who _ h s' r, (omega (arith, some, c.unspent.ensures, end), c.requires.1.1)),
        ),
      ),
    )

pub returns-clause-passed : goal.returns-clause-passed
returns-clause-passed g c =
    let can = c.requires.0 in
    let s = state_of c.args.board.now in
    let s' = state_of c.run_row-halt.new.board in
    let h = c.run_row-halt.result in
    let starts = row_starts g.course can.goes c.args.tick c.args.most c.args.who s can.begun can.chosen (words_count g.course.image c.args.board.now can.board) can.quiet c.requires.1.0 in
    let r = ran g.course can.goes c.args.tick c.args.most c.args.who s s' h can.some can.begun starts c.run_row-halt.ensures.ran in
    let same = c.unspent.ensures in
    row_passes g.course c.args.tick c.args.most c.args.who (c.args.most - c.unspent.result) h s' (state_of c.end_row.new.board) c.args.fired.now.items c.end_row.new.fired.items starts
    (subst (λ (n : ℕ). Ran g.course c.args.tick c.args.who (c.args.most - n) h s') (sym same) r) c.end_row.ensures.ends
