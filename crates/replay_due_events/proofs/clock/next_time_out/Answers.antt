use Rattle.std.proofs.Common.{◌≡◌, ◌∷◌, ◌+◌, ◌<◌, arith, drop, length, refl, subst, sym, List, []}
use Rattle.source_semantics.specs.Config.{Job}
use Rattle.replay_state.specs.View.{job_of, jobs_of}
use Rattle.replay_state.specs.declared.config.ProcessState.{ProcessState}
use Rattle.std.proofs.lemmas.List.{drop_all}
use Rattle.std.proofs.lemmas.Option.{slice_get_read}
use Rattle.base.proofs.Lists.{drop_at}
use Rattle.replay_due_events.specs.Next.{AreWaitsAfter}
use Rattle.replay_due_events.proofs.Waits.{waits_more}
use Rattle.replay_due_events.proofs.clock.next_time_out.Goals as goal

pub loop-job-preserved : goal.loop-job-preserved
loop-job-preserved c = λ t low rest.
    let i = c.loop-job.job-index in
    let xs = c.args.jobs.now in
    let x = c.job-item.result in
    let split : drop i xs ≡ x ∷ drop (i + 1) xs = drop_at xs i x (slice_get_read xs (length xs) i x refl (omega arith) c.job-item.is) in
    c.loop-job.invariant t (omega (arith, low, c.earlier-least.ensures.first))
    (subst (λ (l : List ProcessState). AreWaitsAfter t (jobs_of l)) (sym split)
    (waits_more t (job_of x) (jobs_of (drop (i + 1) xs)) (c.wait_tick-tick.ensures t (omega (arith, low, c.earlier-least.ensures.second))) rest))

pub returns : goal.returns
returns c =
    c.loop-job.invariant c.loop-job.least (omega arith)
    (subst (λ (l : List ProcessState). AreWaitsAfter c.loop-job.least (jobs_of l)) (sym (drop_all c.loop-job.job-index c.args.jobs.now (omega arith))) (λ k j at. absurd cc))
