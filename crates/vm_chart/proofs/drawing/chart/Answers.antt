use Rattle.std.proofs.Common.{◌≡◌, ℕ, IfOk, arith, refl, ap, subst, ◌∙◌}
use Rattle.std.specs.Prelude.{min}
use Rattle.run_chart.specs.Chart.{chart_in, chart_text}
use Rattle.run_chart.specs.Spans.{columns_of}
use Rattle.run_chart.specs.declared.columns.Columns.{Columns}
use Rattle.vm_releases.specs.Begin.{script_of}
use Rattle.vm_chart.specs.Follows.{AreColumns}
use Rattle.vm_chart.proofs.Following.{columns_are}
use Rattle.vm_chart.proofs.drawing.chart.Goals as goal

pub chart_in-requires : goal.chart_in-requires
chart_in-requires c =
    let columns = c.columns_of-columns.result in
    let are : AreColumns columns = columns_are columns c.args.first c.min.result c.columns_of-columns.ensures.are c.columns_of-columns.ensures.few in
    let end : columns.end ≡ c.min.result = ap (λ (x : Columns). x.end) c.columns_of-columns.ensures.are in
    (refl, (c.requires.plan, (c.requires.runnable, (c.requires.timely, (are, omega (arith, end))))))

pub returns : goal.returns
unfolding chart_text
returns c =
    let end : c.min.result ≡ min c.args.end c.args.script.now.end = omega arith in
    subst (λ (columns : Columns). IfOk c.chart_in.result (λ text. text ≡ chart_in c.args.image.now (script_of c.args.script.now) columns))
    (c.columns_of-columns.ensures.are ∙ ap (λ (e : ℕ). columns_of c.args.first e) end) c.chart_in.ensures
