use Rattle.std.proofs.Common.{◌+◌, arith, sym, ◌∙◌, drop, get_or}
use Rattle.std.specs.Prelude.{pos}
use Rattle.machine_semantics.specs.State.{State}
use Rattle.machine_semantics.specs.Starts.{Started, line, lines}
use Rattle.vm_state.specs.Board.{state_of}
use Rattle.vm_stretch.specs.StartLawsDue.{AreDone}
use Rattle.vm_stretch.proofs.Leading.{left_calm, left_room, left_step}
use Rattle.script.specs.declared.script.ScriptLine.{ScriptLine}
use Rattle.script.specs.declared.script.ScriptLine.TheVariants.{Set}
use Rattle.vm_releases.specs.Begin.{line_of, lines_of}
use Rattle.vm_releases.proofs.Saying.{all_done, as_many_lines, line_at, line_left, lines_begin, lines_done, none_more, past_more}
use Rattle.vm_releases.proofs.lines.do_lines.Goals as goal

pub loop-done-init : goal.loop-done-init
loop-done-init g c =
    let come = c.requires.1.1.1.0 in
    record {
      board = c.requires.1.1.0;
      left = lines_begin g.image c.args.tick c.args.done.now (lines_of c.args.script.now) (state_of c.args.board.now) c.args.fired.now.items come;
      from = omega arith;
      within = omega (arith, come.within, as_many_lines c.args.script.now);
      past = λ i m at early. (let before = come.past i m at early in omega (arith, before));
    }

pub returns-then-tick_of-tick-clause-done : goal.returns-then-tick_of-tick-clause-done
returns-then-tick_of-tick-clause-done g c =
    let ls = lines_of c.args.script.now in
    let k = c.loop-done.done in
    none_more c.args.tick k c.args.done.now ls _ c.requires.1.1.1.0 c.loop-done.invariant.from c.loop-done.invariant.past (line_at c.args.script.now k _ (omega arith)) (λ same. c.if-tick_of-tick.true (c.tick_of.ensures ∙ same))

pub returns-then-tick_of-tick-clause-started : goal.returns-then-tick_of-tick-clause-started
returns-then-tick_of-tick-clause-started g c =
    let ls = lines_of c.args.script.now in
    let k = c.loop-done.done in
    let done : AreDone c.args.tick k ls =
    none_more c.args.tick k c.args.done.now ls _ c.requires.1.1.1.0 c.loop-done.invariant.from c.loop-done.invariant.past (line_at c.args.script.now k _ (omega arith)) (λ same. c.if-tick_of-tick.true (c.tick_of.ensures ∙ same)) in
    lines_done g.image c.args.tick k ls (state_of c.args.board.now) (state_of c.loop-done.board) c.args.fired.now.items c.loop-done.fired.items done c.requires.1.1.1.1.0 c.loop-done.invariant.left

pub do_line-requires : goal.do_line-requires
do_line-requires g c =
    let ls = lines_of c.args.script.now in
    let k = c.loop-done.done in
    let said : ScriptLine = get_or c.args.script.now k (Set 0 0 (pos 0)) in
    let at = line_at c.args.script.now k (Set 0 0 (pos 0)) (omega arith) in
    let go : State → Started = lines g.image c.args.tick ls in
    let step : State → Started = line g.image c.args.tick (line_of said) in
    let rest : State → Started = lines g.image c.args.tick (drop (k + 1) ls) in
    let left = line_left g.image c.args.tick k ls (line_of said) go (state_of c.args.board.now) (state_of c.loop-done.board) c.args.fired.now.items c.loop-done.fired.items at c.loop-done.invariant.left in (
      c.requires.0,
      (
        c.requires.1.0,
        (
          c.loop-done.invariant.board,
          (
            sym c.tick_of.ensures ∙ c.if-tick_of-tick.false,
            (
              left_calm go step rest (state_of c.args.board.now) (state_of c.loop-done.board) c.args.fired.now.items c.loop-done.fired.items left c.requires.1.1.1.1.0,
              left_room go step rest (state_of c.args.board.now) (state_of c.loop-done.board) c.args.fired.now.items c.loop-done.fired.items 64 left c.requires.1.1.1.1.1,
            ),
          ),
        ),
      ),
    )

pub loop-done-preserved : goal.loop-done-preserved
loop-done-preserved g c =
    let ls = lines_of c.args.script.now in
    let k = c.loop-done.done in
    let at = line_at c.args.script.now k _ (omega arith) in
    let left = line_left g.image c.args.tick k ls _ (lines g.image c.args.tick ls) (state_of c.args.board.now) (state_of c.loop-done.board) c.args.fired.now.items c.loop-done.fired.items at c.loop-done.invariant.left in
    record {
      board = c.do_line.ensures.board;
      left = left_step (lines g.image c.args.tick ls) _ (lines g.image c.args.tick (drop (k + 1) ls)) (state_of c.args.board.now) (state_of c.loop-done.board) _ c.args.fired.now.items c.loop-done.fired.items _ left c.do_line.ensures.started;
      from = omega (arith, c.loop-done.invariant.from);
      within = omega arith;
      past = past_more c.args.tick k ls _ at (sym c.tick_of.ensures ∙ c.if-tick_of-tick.false) c.loop-done.invariant.past;
    }

pub returns-clause-done : goal.returns-clause-done
returns-clause-done g c = all_done c.args.tick c.loop-done.done (lines_of c.args.script.now) (omega (arith, as_many_lines c.args.script.now)) c.loop-done.invariant.past

pub returns-clause-started : goal.returns-clause-started
returns-clause-started g c =
    let ls = lines_of c.args.script.now in
    let done : AreDone c.args.tick c.loop-done.done ls = all_done c.args.tick c.loop-done.done ls (omega (arith, as_many_lines c.args.script.now)) c.loop-done.invariant.past in
    lines_done g.image c.args.tick c.loop-done.done ls (state_of c.args.board.now) (state_of c.loop-done.board) c.args.fired.now.items c.loop-done.fired.items done c.requires.1.1.1.1.0 c.loop-done.invariant.left
