use Rattle.std.proofs.Common.{◌≡◌, ℕ, arith, ap, sym, subst, ◌∙◌}
use Rattle.run_chart.specs.declared.columns.Columns.{Columns}
use Rattle.run_chart.specs.Columns.{AreFew, end_of}
use Rattle.vm_chart.proofs.Following.{on_ok_both}
use Rattle.vm_chart.proofs.course.Course.draw_column.Goals as goal

pub end_of-end-requires : goal.end_of-end-requires
end_of-end-requires g c =
    let count : c.args.columns.now.count ≡ g.drawing.columns.count = ap (λ (x : Columns). x.count) c.requires.1.1.1.1.1.1.0 in
    record { few = subst (λ (x : Columns). AreFew x) (sym c.requires.1.1.1.1.1.1.0) c.requires.1.1.1.1.0.few; column = omega (arith, count, c.requires.1.1.1.1.1.0, c.requires.1.1.1.1.1.1.1.0) }

pub draw_to-requires : goal.draw_to-requires
draw_to-requires g c =
    let shown : c.args.columns.now ≡ g.drawing.columns = c.requires.1.1.1.1.1.1.0 in
    let end : c.end_of-end.result ≡ end_of g.drawing.columns g.drawing.column =
    c.end_of-end.ensures ∙ (ap (λ (x : Columns). end_of x c.args.column) shown ∙ ap (λ (n : ℕ). end_of g.drawing.columns n) c.requires.1.1.1.1.1.1.1.0) in (
      c.requires.0,
      (
        c.requires.1.0,
        (
          c.requires.1.1.0,
          (
            c.requires.1.1.1.0,
            (
              c.requires.1.1.1.1.0,
              (c.requires.1.1.1.1.1.0, (ap (λ (x : Columns). x.first) shown, (end, (c.requires.1.1.1.1.1.1.1.1.0, (c.requires.1.1.1.1.1.1.1.1.1.0, c.requires.1.1.1.1.1.1.1.1.1.1))))),
            ),
          ),
        ),
      ),
    )

pub returns-clause-there : goal.returns-clause-there
returns-clause-there g c =
    let end : c.end_of-end.result ≡ end_of g.drawing.columns g.drawing.column =
    c.end_of-end.ensures ∙ (ap (λ (x : Columns). end_of x c.args.column) c.requires.1.1.1.1.1.1.0 ∙ ap (λ (n : ℕ). end_of g.drawing.columns n) c.requires.1.1.1.1.1.1.1.0) in
    on_ok_both c.draw_to.result (c.draw_to.new.self.machine.tick ≡ c.end_of-end.result) (c.draw_to.new.self.machine.tick ≡ c.end_of-end.result) (c.draw_to.new.self.machine.tick ≡ end_of g.drawing.columns g.drawing.column)
    (λ one other. one ∙ end) c.draw_to.ensures.there c.draw_to.ensures.there
