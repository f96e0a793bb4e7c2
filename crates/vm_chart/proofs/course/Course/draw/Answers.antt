use Rattle.std.proofs.Common.{◌≡◌, ◌<◌, ℕ, arith, refl, ap, subst, ◌∙◌}
use Rattle.std.specs.Prelude.{min}
use Rattle.run_chart.specs.Spans.{first_tick}
use Rattle.vm_releases.specs.Begin.{script_of}
use Rattle.vm_chart.specs.Follows.{Follows}
use Rattle.vm_chart.proofs.Ending.{begins_before, last_is, next_is}
use Rattle.vm_chart.proofs.course.Course.draw.Goals as goal

pub loop-column-init : goal.loop-column-init
loop-column-init g c = record { follows = c.requires.1.1.1.1.1.0; there = omega (arith, c.requires.1.1.1.1.1.1) }

pub draw_column-requires : goal.draw_column-requires
draw_column-requires g c =
    let columns = c.args.columns.now in
    let column = c.loop-column.column in
    let low : column < columns.count = omega arith in
    let before = begins_before columns c.requires.1.1.1.0 column low in
    let start : c.loop-column.self.machine.tick ≡ first_tick columns column = omega (arith, c.loop-column.invariant.there, before) in
    (c.requires.0, (refl, (c.requires.1.0, (c.requires.1.1.0, (c.requires.1.1.1.0, (low, (refl, (refl, (c.requires.1.1.1.1.0, (c.loop-column.invariant.follows, start))))))))))

pub loop-column-preserved : goal.loop-column-preserved
loop-column-preserved g c =
    let columns = c.args.columns.now in
    let column = c.loop-column.column in
    let low : column < columns.count = omega arith in
    record { follows = c.in_ok-draw_column.ensures.follows; there = c.in_ok-draw_column.ensures.there ∙ (next_is columns c.requires.1.1.1.0 column low) }

pub returns-clause-follows : goal.returns-clause-follows
returns-clause-follows g c =
    let all : c.loop-column.column ≡ c.args.columns.now.count = omega arith in
    subst (λ (n : ℕ). Follows (record { image = g.image; script = script_of c.args.script.now; columns = c.args.columns.now; column = n }) c.loop-column.self) all c.loop-column.invariant.follows

pub returns-clause-there : goal.returns-clause-there
returns-clause-there g c =
    let columns = c.args.columns.now in
    let all : c.loop-column.column ≡ columns.count = omega arith in
    c.loop-column.invariant.there ∙ (ap (λ (n : ℕ). min (first_tick columns n) columns.end) all ∙ last_is columns c.requires.1.1.1.0)
