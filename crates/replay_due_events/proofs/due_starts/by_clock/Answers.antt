use Rattle.std.proofs.Common.{◌≡◌, ◌<◌, ◌∙◌, ◌∷◌, [], List, Bool, ap, arith, cond, get_or, length, sym}
use Rattle.std.specs.Prelude.{slice_get}
use Rattle.base.specs.declared.event.Event.{Event}
use Rattle.source_semantics.specs.Starts.{release_missing, release_of}
use Rattle.replay_state.specs.View.{jobs_of}
use Rattle.replay_due_events.specs.Timings.{is_clocked}
use Rattle.replay_due_events.proofs.ClockFree.{none_if, past_one, some_timing}
use Rattle.replay_due_events.proofs.due_starts.by_clock.Goals.{else-is_missing-via-then-is_missing+else-is_clocked_at, else-is_missing-via-else-is_missing}
use Rattle.replay_due_events.proofs.due_starts.by_clock.Goals as goal

pub loop-process-preserved : goal.loop-process-preserved
loop-process-preserved c =
    let js = jobs_of c.args.jobs.now in
    let t = c.args.tick in
    let ts = c.args.timings.now in
    let p = c.loop-process.process in
    let missing : List Event = release_missing t p (slice_get js p) in
    let none : cond (is_clocked t (get_or ts p some_timing)) missing [] ≡ [] = elim c.else-is_missing.branch [
      | else-is_missing-via-then-is_missing+else-is_clocked_at w ↦ ap (λ (b : Bool). cond b missing []) (sym w.is_clocked_at.ensures ∙ w.if-is_clocked_at.false)
      | else-is_missing-via-else-is_missing w ↦
          none_if (is_clocked t (get_or ts p some_timing)) missing (c.is_missing.ensures ∙ ap (λ (b : Bool). cond b (release_of t p ∷ []) []) w.if-is_missing.false)
    ] in
    sym (past_one js t p ts (omega arith) none) ∙ c.loop-process.invariant
