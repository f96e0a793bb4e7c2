use Rattle.std.proofs.Common.{◌∙◌, ap}
use Rattle.std.proofs.lemmas.List.{length-map}
use Rattle.replay_state.specs.View.{config_of, job_of, jobs_of}
use Rattle.replay_due_events.proofs.Nexting.{next_after}
use Rattle.replay_due_events.proofs.no_overdue_start.is_next_after.Goals as goal

pub returns : goal.returns
returns g c = λ end.
    c.all_hold.ensures
    ∙ next_after g.program (config_of c.args.config.now) c.args.lines.now end c.args.until c.first_open-from.result (jobs_of c.as_slice-jobs.result.now) c.as_slice-timings.result.now
    c.lines_are_after-by_lines.result c.clock_is_after-by_clock.result c.time_outs_are_after-by_waits.result
    c.first_open-from.ensures (ap jobs_of c.as_slice-jobs.ensures.value) (c.as_slice-timings.ensures.value ∙ c.requires.0.timings)
    (length-map c.args.config.now.jobs.items job_of ∙ c.requires.1.1.0)
    c.lines_are_after-by_lines.ensures c.clock_is_after-by_clock.ensures c.time_outs_are_after-by_waits.ensures
