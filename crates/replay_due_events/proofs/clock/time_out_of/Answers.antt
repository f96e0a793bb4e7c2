use Rattle.std.proofs.Common.{◌≡◌, ◌∙◌, ap, arith, sym, subst, refl, length, true, Some, None}
use Rattle.std.specs.Prelude.{option_map, slice_get}
use Rattle.std.proofs.lemmas.Option.{none-some, same_Some, slice_get_past, slice_get_read, slice_get-map}
use Rattle.source_semantics.specs.Config.{Job}
use Rattle.replay_state.specs.View.{job_of, jobs_of}
use Rattle.replay_due_events.specs.NextDue.{doing_due, is_after}
use Rattle.replay_due_events.proofs.clock.time_out_of.Goals as goal

pub returns-in-None : goal.returns-in-None
returns-in-None c = λ j at.
    let js = c.args.jobs.now in
    let none : slice_get (jobs_of js) c.args.process ≡ None = slice_get-map job_of js c.args.process ∙ ap (option_map job_of) (slice_get_past js c.args.process c.in-None.ensures.lookup.3) in
    absurd (none-some j (sym none ∙ at))

pub returns-in-Some : goal.returns-in-Some
returns-in-Some c = λ j at.
    let js = c.args.jobs.now in
    let got : slice_get js c.args.process ≡ Some c.in-Some.job.now = slice_get_read js (length js) c.args.process c.in-Some.job.now refl c.in-Some.ensures.lookup.3.0 c.in-Some.ensures.lookup.1 in
    let some : slice_get (jobs_of js) c.args.process ≡ Some (job_of c.in-Some.job.now) = slice_get-map job_of js c.args.process ∙ ap (option_map job_of) got in
    let same : job_of c.in-Some.job.now ≡ j = same_Some (job_of c.in-Some.job.now) j (sym some ∙ at) in
    subst (λ (x : Job). is_after c.wait_tick.result (doing_due 0 x.doing) ≡ true) same (c.wait_tick.ensures c.wait_tick.result (omega arith))
