use Rattle.std.proofs.Common.{◌≡◌, ◌+◌, ◌∙◌, IfOk, ℕ, List, ap, map, subst, sym}
use Rattle.image.specs.Raw.{process_of}
use Rattle.sched_response.specs.declared.tasks.Task.{Task}
use Rattle.sched_response.specs.Demand.{with_run}
use Rattle.sched_sensitivity.specs.Slack.{with_more, IsTimely}
use Rattle.sched_sensitivity.proofs.More.{put_back}
use Rattle.command_due.specs.Lines.{AreLeastBounds}
use Rattle.command_programs.specs.Levels.{HaveLevels}
use Rattle.command_programs.proofs.Ranks.{levels_more}
use Rattle.command_programs.proofs.bounds.bounds_with.Goals as goal

pub least_bounds-bounds-requires-clause-timely : goal.least_bounds-bounds-requires-clause-timely
least_bounds-bounds-requires-clause-timely c =
    let set = c.args.set.now in
    let level = c.args.level in
    let moved : c.set_run.new.self ≡ with_more set level c.args.extra = c.set_run.ensures ∙ ap (λ (n : ℕ). with_run set level (n + c.args.extra)) c.run-run.ensures.value in
    subst (λ (us : List Task). IsTimely us) (sym moved) c.requires.timely

pub least_bounds-bounds-requires-clause-levels : goal.least_bounds-bounds-requires-clause-levels
least_bounds-bounds-requires-clause-levels c =
    let set = c.args.set.now in
    let level = c.args.level in
    let moved : c.set_run.new.self ≡ with_more set level c.args.extra = c.set_run.ensures ∙ ap (λ (n : ℕ). with_run set level (n + c.args.extra)) c.run-run.ensures.value in
    subst (λ (us : List Task). HaveLevels (map process_of c.args.processes.now) us) (sym moved) (levels_more (map process_of c.args.processes.now) set level c.args.extra c.requires.levels)

pub returns-clause-kept : goal.returns-clause-kept
returns-clause-kept c =
    let set = c.args.set.now in
    let level = c.args.level in
    let moved : c.set_run.new.self ≡ with_more set level c.args.extra = c.set_run.ensures ∙ ap (λ (n : ℕ). with_run set level (n + c.args.extra)) c.run-run.ensures.value in
    c.set_run-2.ensures
    ∙ ap (λ (us : List Task). with_run us level c.run-run.result) moved
    ∙ ap (λ (n : ℕ). with_run (with_more set level c.args.extra) level n) c.run-run.ensures.value
    ∙ put_back set level c.args.extra c.requires.level

pub returns-clause-bounds : goal.returns-clause-bounds
returns-clause-bounds c =
    let set = c.args.set.now in
    let level = c.args.level in
    let moved : c.set_run.new.self ≡ with_more set level c.args.extra = c.set_run.ensures ∙ ap (λ (n : ℕ). with_run set level (n + c.args.extra)) c.run-run.ensures.value in
    subst (λ (us : List Task). IfOk c.least_bounds-bounds.result (AreLeastBounds (map process_of c.args.processes.now) us)) moved c.least_bounds-bounds.ensures
