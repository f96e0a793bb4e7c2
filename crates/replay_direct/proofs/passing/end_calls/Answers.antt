use Rattle.std.proofs.Common.{arith, ap, refl, length, [], ◌<◌, ◌≤◌, List}
use Rattle.std.proofs.lemmas.Option.{slice_get_read}
use Rattle.source_semantics.specs.Config.{Job, idle, job_calls, job_doing}
use Rattle.replay_state.specs.View.{calls_of, job_of, vars_of}
use Rattle.replay_state.specs.declared.call.Call.{Call}
use Rattle.replay_state.proofs.Changes.{changed_past, set_changed}
use Rattle.replay_direct.proofs.passing.end_calls.Goals as goal

pub returns-then-process-len : goal.returns-then-process-len
returns-then-process-len c =
    let xs = c.args.jobs.now.items in
    let x = c.index_mut-job.result.now in
    let below : c.args.process < length xs = omega (arith, c.if-process-len.true, c.len.ensures) in
    set_changed job_of (λ (j : Job). job_doing idle (job_calls [] j)) c.args.process xs x _
    (slice_get_read xs (length xs) c.args.process x refl below c.index_mut-job.ensures.value)
    (ap (λ (cs : List Call). record { vars = vars_of x.vars.items; doing = idle; calls = calls_of cs; handling = x.handling }) c.clear.ensures.items)

pub returns-else-process-len : goal.returns-else-process-len
returns-else-process-len c =
    let xs = c.args.jobs.now.items in
    let past : length xs ≤ c.args.process = omega (arith, c.if-process-len.false, c.len.ensures) in
    changed_past job_of (λ (j : Job). job_doing idle (job_calls [] j)) c.args.process xs past
