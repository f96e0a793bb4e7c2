use Rattle.std.proofs.Common.{◌≡◌, ◌+◌, ◌*◌, IfOk, List, arith, refl, ap, sym, subst}
use Rattle.std.specs.Prelude.{All}
use Rattle.machine_semantics.specs.Image.{Image, Script}
use Rattle.machine_semantics.specs.Run.{events}
use Rattle.run_chart.specs.Chart.{chart_in}
use Rattle.run_chart.specs.Traces.{AreDrawn}
use Rattle.run_chart.specs.declared.trace.Trace.{Trace}
use Rattle.vm_releases.specs.Begin.{script_of}
use Rattle.vm_runner.specs.Runnable.{IsRunnable}
use Rattle.vm_state.specs.Plan.{IsOf}
use Rattle.vm_chart.specs.Follows.{Drawing, Follows, IsBeforeLastTick, begins}
use Rattle.vm_chart.proofs.Ending.{all_drawn}
use Rattle.vm_chart.proofs.drawing.chart_in.Goals as goal

pub new-requires : goal.new-requires
new-requires g c =
    let back = sym c.requires.0 in (
      subst (λ (d : Drawing). IsOf d.image c.args.plan.now) back c.requires.1.0,
      subst (λ (d : Drawing). IsRunnable d.image (script_of c.args.script.now)) back c.requires.1.1.0,
    )

pub go_to-requires : goal.go_to-requires
go_to-requires g c =
    let is = c.requires.0 in
    let back = sym is in
    let columns = c.args.columns.now in
    let run = script_of c.args.script.now in
    let course = c.in_ok-course.course in
    let here : Follows (record { image = c.args.image.now.image; script = run; columns = columns; column = 0 }) course =
    subst (λ (i : Image). Follows (record { image = i; script = run; columns = columns; column = 0 }) course) (ap (λ (d : Drawing). d.image) is) (c.in_ok-course.ensures.follows columns) in
    let begin : begins g.drawing ≡ columns.first + 0 * columns.width = ap (λ (d : Drawing). begins d) is in (
      subst (λ (d : Drawing). IsOf d.image c.args.plan.now) back c.requires.1.0,
      (
        ap (λ (d : Drawing). d.script) is,
        (
          subst (λ (d : Drawing). IsRunnable d.image d.script) back c.requires.1.1.0,
          (
            subst (λ (d : Drawing). All IsBeforeLastTick (events d.image d.script)) back c.requires.1.1.1.0,
            (
              ap (λ (d : Drawing). d.columns.first) back,
              (
                subst (λ (d : Drawing). Follows d course) back here,
                (
                  omega (arith, c.requires.1.1.1.1.1),
                  (omega (arith, c.requires.1.1.1.1.0.few.end), (omega (arith, c.in_ok-course.ensures.start), omega (arith, begin))),
                ),
              ),
            ),
          ),
        ),
      ),
    )

pub draw-requires : goal.draw-requires
draw-requires g c =
    let is = c.requires.0 in
    let back = sym is in
    let columns = c.args.columns.now in
    let run = script_of c.args.script.now in
    let course = c.go_to.new.self in
    let there : Follows (record { image = c.args.image.now.image; script = run; columns = columns; column = 0 }) course = subst (λ (d : Drawing). Follows d course) is c.go_to.ensures.follows in (
      subst (λ (d : Drawing). IsOf d.image c.args.plan.now) back c.requires.1.0,
      (
        subst (λ (d : Drawing). IsRunnable d.image run) back c.requires.1.1.0,
        (
          subst (λ (d : Drawing). All IsBeforeLastTick (events d.image run)) back c.requires.1.1.1.0,
          (
            c.requires.1.1.1.1.0,
            (
              c.requires.1.1.1.1.1,
              (
                subst (λ (i : Image). Follows (record { image = i; script = run; columns = columns; column = 0 }) course) (ap (λ (d : Drawing). d.image) back) there,
                omega (arith, c.go_to.ensures.there),
              ),
            ),
          ),
        ),
      ),
    )

pub text_of-requires : goal.text_of-requires
text_of-requires g c =
    let is = c.requires.0 in
    let columns = c.args.columns.now in
    let run = script_of c.args.script.now in
    let course = c.draw.new.self in
    let drawn : AreDrawn g.drawing.image run columns course.traces.items =
    all_drawn (record { image = g.drawing.image; script = run; columns = columns; column = columns.count }) course refl c.in_ok-draw.ensures.there c.in_ok-draw.ensures.follows in (
      c.requires.1.1.1.1.0.few,
      (
        subst (λ (s : Script). AreDrawn c.args.image.now.image s columns c.deref.result.now) (sym (ap (λ (d : Drawing). d.script) is))
            (subst (λ (i : Image). AreDrawn i run columns c.deref.result.now) (ap (λ (d : Drawing). d.image) is)
            (subst (λ (ts : List Trace). AreDrawn g.drawing.image run columns ts) (sym c.deref.ensures.value) drawn)),
        c.requires.1.0.few,
      ),
    )

pub returns : goal.returns
returns g c =
    subst (λ (s : Script). IfOk c.text_of.result (λ text. text ≡ chart_in c.args.image.now s c.args.columns.now))
    (ap (λ (d : Drawing). d.script) c.requires.0) c.text_of.ensures
