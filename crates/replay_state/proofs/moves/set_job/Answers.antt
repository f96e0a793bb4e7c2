use Rattle.std.proofs.Common.{arith, refl, length, ◌<◌, ◌≤◌}
use Rattle.std.proofs.lemmas.Option.{slice_get_read}
use Rattle.source_semantics.specs.Config.{Job}
use Rattle.replay_state.specs.View.{calls_of, doing_of, job_of}
use Rattle.replay_state.proofs.Changes.{changed_past, set_changed}
use Rattle.replay_state.proofs.moves.set_job.Goals as goal

pub returns-then-process-len : goal.returns-then-process-len
returns-then-process-len c =
    let xs = c.args.jobs.now.items in
    let below : c.args.process < length xs = omega (arith, c.if-process-len.true, c.len.ensures) in
    set_changed job_of (λ (j : Job). record { vars = j.vars; doing = doing_of c.args.doing; calls = calls_of c.args.calls.items; handling = c.args.handling }) c.args.process xs c.index_mut-job.result.now _
    (slice_get_read xs (length xs) c.args.process c.index_mut-job.result.now refl below c.index_mut-job.ensures.value) refl

pub returns-else-process-len : goal.returns-else-process-len
returns-else-process-len c =
    let xs = c.args.jobs.now.items in
    let past : length xs ≤ c.args.process = omega (arith, c.if-process-len.false, c.len.ensures) in
    changed_past job_of (λ (j : Job). record { vars = j.vars; doing = doing_of c.args.doing; calls = calls_of c.args.calls.items; handling = c.args.handling }) c.args.process xs past
