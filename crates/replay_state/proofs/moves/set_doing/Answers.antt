use Rattle.std.proofs.Common.{arith, refl, length, ◌<◌, ◌≤◌}
use Rattle.std.proofs.lemmas.Option.{slice_get_read}
use Rattle.source_semantics.specs.Config.{job_doing}
use Rattle.replay_state.specs.View.{doing_of, job_of}
use Rattle.replay_state.proofs.Changes.{changed_past, set_changed}
use Rattle.replay_state.proofs.moves.set_doing.Goals as goal

pub returns-then-process-len : goal.returns-then-process-len
returns-then-process-len c =
    let xs = c.args.jobs.now.items in
    let below : c.args.process < length xs = omega (arith, c.if-process-len.true, c.len.ensures) in
    set_changed job_of (job_doing (doing_of c.args.doing)) c.args.process xs c.index_mut.result.now _
    (slice_get_read xs (length xs) c.args.process c.index_mut.result.now refl below c.index_mut.ensures.value) refl

pub returns-else-process-len : goal.returns-else-process-len
returns-else-process-len c =
    let xs = c.args.jobs.now.items in
    let past : length xs ≤ c.args.process = omega (arith, c.if-process-len.false, c.len.ensures) in
    changed_past job_of (job_doing (doing_of c.args.doing)) c.args.process xs past
