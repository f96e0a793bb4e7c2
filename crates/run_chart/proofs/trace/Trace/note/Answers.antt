use Rattle.std.proofs.Common.{◌≡◌, ℕ, Bool, true, false, arith, refl, ap, sym, ◌∙◌}
use Rattle.std.specs.Prelude.{◌&&◌, nat_le}
use Rattle.std.proofs.lemmas.Bool.Decides.{nat_tests}
use Rattle.run_chart.specs.Responses.{ends, is_end, is_release, releases}
use Rattle.run_chart.specs.declared.trace.Trace.{Trace}
use Rattle.run_chart.specs.Traces.{with_longest}
use Rattle.run_chart.proofs.Tracing.{ends_is, noted_end, noted_other, noted_release, releases_is}
use Rattle.run_chart.proofs.trace.Trace.note.Goals.{else-is_end-via-then-is_end+else-event-first, else-is_end-via-else-is_end}
use Rattle.run_chart.proofs.trace.Trace.note.Goals as goal

pub returns-then-is_release-clause-counts : goal.returns-then-is_release-clause-counts
returns-then-is_release-clause-counts g c =
    let e = c.args.event.now in
    let old = c.args.self.now in
    noted_release e.proc c.args.first g.before e old (record old { released = e.tick }) c.requires.0
    (releases_is e ∙ (sym c.is_release.ensures ∙ c.if-is_release.true)) refl refl refl

pub returns-then-event-first-clause-counts : goal.returns-then-event-first-clause-counts
returns-then-event-first-clause-counts g c =
    let e = c.args.event.now in
    let old = c.args.self.now in
    let is : is_end e.act ≡ true = sym c.is_end.ensures ∙ c.if-is_end.true in
    let from : nat_le c.args.first e.tick ≡ true = grind (arith, nat_tests, c.if-event-first.true) in
    noted_end e.proc c.args.first g.before e old c.end.new.self c.requires.0
    (releases_is e ∙ (sym c.is_release.ensures ∙ c.if-is_release.false))
    (ends_is e c.args.first ∙ (ap (λ (b : Bool). b && nat_le c.args.first e.tick) is ∙ from))
    (ap (λ (t : Trace). t.released) c.end.ensures)
    (ap (λ (t : Trace). t.ended) c.end.ensures)
    (ap (λ (t : Trace). t.longest) c.end.ensures ∙ ap (λ (r : ℕ). with_longest old.longest r) c.saturating_sub.ensures)

pub returns-else-is_end-clause-counts : goal.returns-else-is_end-clause-counts
returns-else-is_end-clause-counts g c =
    let e = c.args.event.now in
    let old = c.args.self.now in
    let no_release : releases e.proc e ≡ false = releases_is e ∙ (sym c.is_release.ensures ∙ c.if-is_release.false) in
    let no_end : ends e.proc c.args.first e ≡ false =
    ends_is e c.args.first
    ∙ elim c.else-is_end.branch [
      | else-is_end-via-then-is_end+else-event-first w ↦
          let is : is_end e.act ≡ true = sym c.is_end.ensures ∙ w.if-is_end.true in
          let before : nat_le c.args.first e.tick ≡ false = grind (arith, nat_tests, w.if-event-first.false) in
          ap (λ (b : Bool). b && nat_le c.args.first e.tick) is ∙ before
      | else-is_end-via-else-is_end w ↦ (let is : is_end e.act ≡ false = sym c.is_end.ensures ∙ w.if-is_end.false in ap (λ (b : Bool). b && nat_le c.args.first e.tick) is)
    ] in
    noted_other e.proc c.args.first g.before e old old c.requires.0 no_release no_end refl refl refl
