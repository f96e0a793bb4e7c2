use Rattle.std.proofs.Common.{◌≡◌, ◌-◌, ℕ, ap, sym, subst, ◌∙◌}
use Rattle.std.specs.Int.{div_ceil}
use Rattle.run_chart.specs.declared.columns.Columns.{Columns}
use Rattle.run_chart.specs.Spans.{columns_of, columns_of_width}
use Rattle.run_chart.specs.Columns.{AreFew}
use Rattle.run_chart.proofs.Widths.{columns_are_few}
use Rattle.run_chart.proofs.column_widths.with_width.Goals as goal

pub returns-clause-few : goal.returns-clause-few
returns-clause-few c =
    let first = c.args.first in
    let end = c.args.end in
    let width = c.args.width in
    let of : ℕ → Columns = λ n. record { first = first; end = end; width = width; count = n } in
    let count : c.div_ceil.result ≡ div_ceil (end - first) width = c.div_ceil.ensures ∙ ap (λ (x : ℕ). div_ceil x width) c.saturating_sub.ensures in
    let are : columns_of first end ≡ of c.div_ceil.result = sym (ap (λ (w : ℕ). columns_of_width first end w) c.requires.width) ∙ ap of (sym count) in
    subst (λ (x : Columns). AreFew x) are (columns_are_few first end c.requires.end)
