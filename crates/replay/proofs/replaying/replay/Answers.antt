use Rattle.std.proofs.Common.{◌∙◌, ◌≤◌, subst, sym}
use Rattle.source_semantics.specs.Names.{routine_count}
use Rattle.replay_due_events.specs.NextDue.{FramesPass}
use Rattle.syntax_tree.specs.declared.decl.Program.{Program}
use Rattle.syntax_tree.specs.Placed.{placed, plain}
use Rattle.replay.proofs.replaying.replay.Goals as goal

pub judged-requires-clause-frames : goal.judged-requires-clause-frames
judged-requires-clause-frames g c =
    subst (λ (p : Program). FramesPass (plain (placed p))) (sym (c.in_ok-declarations.ensures ∙ c.named.ensures))
    (c.frames_pass.ensures (plain (placed c.args.program.now)) (c.checked_programs_are_ready.ensures (placed c.args.program.now) c.requires.0.program.checked).formed)

pub judged-requires-clause-routines : goal.judged-requires-clause-routines
judged-requires-clause-routines g c =
    subst (λ (p : Program). routine_count (plain (placed p)) ≤ 512) (sym (c.in_ok-declarations.ensures ∙ c.named.ensures))
    (c.checked_programs_are_ready.ensures (placed c.args.program.now) c.requires.0.program.checked).formed.counts_fit.few_routines
