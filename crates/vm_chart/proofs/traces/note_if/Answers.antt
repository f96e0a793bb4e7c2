use Rattle.std.proofs.Common.{◌≡◌, ◌++◌, ◌∷◌, [], ℕ, false, arith, sym, subst}
use Rattle.std.specs.Prelude.{nat_eq}
use Rattle.std.proofs.lemmas.Bool.Decides.{nat_tests}
use Rattle.run_chart.specs.Traces.{Counts}
use Rattle.run_chart.proofs.Tracing.{noted_by_other}
use Rattle.vm_chart.proofs.Few.{ended_few}
use Rattle.vm_chart.proofs.traces.note_if.Goals as goal

pub returns-then-event-process-clause-counts : goal.returns-then-event-process-clause-counts
returns-then-event-process-clause-counts g c =
    let other : nat_eq c.args.event.now.proc c.args.process ≡ false = grind (arith, nat_tests, c.if-event-process.true) in
    noted_by_other c.args.process c.args.first g.before c.args.event.now c.args.trace.now other c.requires.0

pub note-requires : goal.note-requires
note-requires g c =
    let few = ended_few c.args.process c.args.first 0 g.before in (
      subst (λ (k : ℕ). Counts k c.args.first g.before c.args.trace.now) (sym c.if-event-process.false) c.requires.0,
      (omega (arith, few, c.requires.0.ended, c.requires.1.0), omega (arith, c.requires.1.1)),
    )

pub returns-clause-counts : goal.returns-clause-counts
returns-clause-counts g c = subst (λ (k : ℕ). Counts k c.args.first (g.before ++ c.args.event.now ∷ []) c.note.new.self) c.if-event-process.false c.note.ensures.counts
