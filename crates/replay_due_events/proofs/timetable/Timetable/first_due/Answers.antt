use Rattle.std.proofs.Common.{sym, ◌∙◌, ap, ◌≡◌, false, true}
use Rattle.std.specs.Prelude.{◌&&◌, nat_eq, option_map}
use Rattle.replay_state.specs.View.{config_of, jobs_of}
use Rattle.source_semantics.specs.Starts.{release_of}
use Rattle.replay_due_events.specs.Timings.{event_of, first_in}
use Rattle.replay_due_events.proofs.Agreeing.{due_acted, due_by_clock, due_by_line, due_by_wait}
use Rattle.replay_due_events.proofs.timetable.Timetable.first_due.Goals as goal

pub returns-then-has_acted : goal.returns-then-has_acted
returns-then-has_acted g c = λ end.
    let acted : c.args.config.now.acted && nat_eq c.args.config.now.tick c.args.tick ≡ true = sym c.has_acted.ensures ∙ c.if-has_acted.true in
    sym (ap first_in (due_acted g.program (config_of c.args.config.now) c.args.lines.now end c.args.tick acted))

pub returns-in-Some : goal.returns-in-Some
returns-in-Some g c = λ end.
    let nobody : c.args.config.now.acted && nat_eq c.args.config.now.tick c.args.tick ≡ false = sym c.has_acted.ensures ∙ c.if-has_acted.false in
    due_by_line g.program (config_of c.args.config.now) c.args.lines.now end c.args.tick (jobs_of c.as_slice-jobs.result.now) c.as_slice-timings.result.now
    nobody (ap jobs_of c.as_slice-jobs.ensures.value) (c.as_slice-timings.ensures.value ∙ c.requires.0.timings)
    (release_of c.args.tick c.in-Some.process) c.in-Some.ensures

pub returns-in-Some-by_clock : goal.returns-in-Some-by_clock
returns-in-Some-by_clock g c = λ end.
    let nobody : c.args.config.now.acted && nat_eq c.args.config.now.tick c.args.tick ≡ false = sym c.has_acted.ensures ∙ c.if-has_acted.false in
    due_by_clock g.program (config_of c.args.config.now) c.args.lines.now end c.args.tick (jobs_of c.as_slice-jobs.result.now) c.as_slice-timings.result.now
    nobody (ap jobs_of c.as_slice-jobs.ensures.value) (c.as_slice-timings.ensures.value ∙ c.requires.0.timings)
    (release_of c.args.tick c.in-Some-by_clock.process) c.in-None.ensures c.in-Some-by_clock.ensures

pub returns-in-None-by_clock : goal.returns-in-None-by_clock
returns-in-None-by_clock g c = λ end.
    let nobody : c.args.config.now.acted && nat_eq c.args.config.now.tick c.args.tick ≡ false = sym c.has_acted.ensures ∙ c.if-has_acted.false in
    due_by_wait g.program (config_of c.args.config.now) c.args.lines.now end c.args.tick (jobs_of c.as_slice-jobs.result.now) c.as_slice-timings.result.now
    nobody (ap jobs_of c.as_slice-jobs.ensures.value) (c.as_slice-timings.ensures.value ∙ c.requires.0.timings)
    (option_map (event_of c.args.tick) c.by_waits.result) c.as_slice.result.now (c.as_slice.ensures.value ∙ c.requires.0.by_rank) c.in-None.ensures c.in-None-by_clock.ensures c.by_waits.ensures
