use Rattle.std.proofs.Common.{sym, ◌∙◌, ap}
use Rattle.replay_due_events.specs.NextDue.{is_after, line_due}
use Rattle.replay_state.specs.View.{config_of, jobs_of}
use Rattle.source_semantics.specs.Starts.{occurs, release_of}
use Rattle.script.specs.Meaning.{line_said}
use Rattle.replay_due_events.proofs.Nexting.{line_none, line_some}
use Rattle.replay_due_events.proofs.no_overdue_start.line_is_after.Goals as goal

pub returns-in-None : goal.returns-in-None
returns-in-None g c =
    line_none g.program (config_of c.args.config.now) c.args.from c.args.until c.in-Occur.tick c.from.result (jobs_of c.as_slice.result.now) c.args.timings.now
    (ap jobs_of c.as_slice.ensures.value) c.requires c.in-None.ensures
    ∙ (ap (λ e. is_after c.args.until (line_due g.program (config_of c.args.config.now) c.args.from (occurs c.in-Occur.tick e))) c.from.ensures
    ∙ sym (ap (λ l. is_after c.args.until (line_due g.program (config_of c.args.config.now) c.args.from (line_said l))) c.in-Occur.is))

pub returns-in-Some : goal.returns-in-Some
returns-in-Some g c =
    line_some g.program (config_of c.args.config.now) c.args.from c.args.until c.in-Occur.tick c.from.result (jobs_of c.as_slice.result.now) c.args.timings.now
    (ap jobs_of c.as_slice.ensures.value) c.requires (release_of c.in-Occur.tick c.in-Some.field-0) c.is_outside.result c.in-Some.ensures c.is_outside.ensures
    ∙ (ap (λ e. is_after c.args.until (line_due g.program (config_of c.args.config.now) c.args.from (occurs c.in-Occur.tick e))) c.from.ensures
    ∙ sym (ap (λ l. is_after c.args.until (line_due g.program (config_of c.args.config.now) c.args.from (line_said l))) c.in-Occur.is))
