use Rattle.std.proofs.Common.{◌≡◌, ◌+◌, length, arith, ◌∙◌}
use Rattle.run_chart.specs.Columns.{end_of}
use Rattle.vm_chart.specs.declared.course.Course.{Course}
use Rattle.vm_chart.specs.Follows.{Each, Follows, IsDrawnTo}
use Rattle.vm_chart.proofs.Following.{each_at, end_within, follows_to, on_ok, on_ok_both}
use Rattle.vm_chart.proofs.course.Course.draw_to.Goals as goal

pub loop-self-init : goal.loop-self-init
loop-self-init g c = record { follows = c.requires.1.1.1.1.1.1.1.1.1.0; from = omega (arith, c.requires.1.1.1.1.1.1.1.1.1.1); within = omega (arith, c.requires.1.1.1.1.1.1.1.1.1.1, c.requires.1.1.1.1.1.1.1.0) }

pub turn-requires : goal.turn-requires
turn-requires g c =
    let d = g.drawing in
    let within = end_within d.columns c.requires.1.1.1.1.0 d.column c.requires.1.1.1.1.1.0 in
    let end = c.requires.1.1.1.1.1.1.1.0 in (
      c.requires.0,
      (
        c.requires.1.0,
        (
          c.requires.1.1.0,
          (
            c.requires.1.1.1.0,
            (
              c.requires.1.1.1.1.1.1.0,
              (
                c.loop-self.invariant.follows,
                (omega (arith, within, end, c.requires.1.1.1.1.1.1.1.1.0), (omega (arith, within, end, c.requires.1.1.1.1.0.few.end), (omega (arith, c.tick.ensures, c.loop-self-test.true), c.loop-self.invariant.from))),
              ),
            ),
          ),
        ),
      ),
    )

pub end_all-requires : goal.end_all-requires
end_all-requires g c =
    let here : c.loop-self.self.machine.tick ≡ end_of g.drawing.columns g.drawing.column = omega (arith, c.loop-self.invariant.within, c.requires.1.1.1.1.1.1.1.0, c.tick.ensures, c.loop-self-test.false) in
    (c.requires.1.1.1.1.0, (c.requires.1.1.1.1.1.0, each_at g.drawing (end_of g.drawing.columns g.drawing.column) c.loop-self.self here c.loop-self.invariant.follows))

pub returns-clause-follows : goal.returns-clause-follows
returns-clause-follows g c =
    let d = g.drawing in
    let next = record d { column = d.column + 1 } in
    let t = end_of d.columns d.column in
    let here : c.loop-self.self.machine.tick ≡ t = omega (arith, c.loop-self.invariant.within, c.requires.1.1.1.1.1.1.1.0, c.tick.ensures, c.loop-self-test.false) in
    let new : Course = record { machine = c.loop-self.self.machine; traces = c.end_all.new.traces } in
    on_ok_both c.end_all.result (Each (IsDrawnTo next t t) new.traces.items) (length new.traces.items ≡ length c.loop-self.self.traces.items) (Follows next new)
    (λ each count. follows_to next t new here c.loop-self.invariant.follows.stands (count ∙ c.loop-self.invariant.follows.count) each) c.end_all.ensures.each c.end_all.ensures.count

pub returns-clause-there : goal.returns-clause-there
returns-clause-there g c =
    let here : c.loop-self.self.machine.tick ≡ c.args.end = omega (arith, c.loop-self.invariant.within, c.tick.ensures, c.loop-self-test.false) in
    on_ok c.end_all.result (c.loop-self.self.machine.tick ≡ c.args.end) here
