use Rattle.std.proofs.Common.{arith, ap, refl, length, ◌<◌, ◌≤◌, List}
use Rattle.std.proofs.lemmas.Option.{slice_get_read}
use Rattle.syntax_tree.specs.Placed.{placed_stmts, plain_stmts}
use Rattle.source_semantics.specs.Config.{Job, job_calls}
use Rattle.source_semantics.specs.Run.{Call}
use Rattle.replay_state.specs.View.{doing_of, job_of, vars_of}
use Rattle.replay_state.proofs.Changes.{changed_past, set_changed}
use Rattle.replay_direct.specs.Direct.{calls_from}
use Rattle.replay_direct.proofs.passing.pass_put.Goals as goal

pub returns-then-process-len : goal.returns-then-process-len
returns-then-process-len c =
    let xs = c.args.jobs.now.items in
    let x = c.index_mut.result.now in
    let below : c.args.process < length xs = omega (arith, c.if-process-len.true, c.len.ensures) in
    set_changed job_of (λ (j : Job). job_calls (calls_from (plain_stmts (placed_stmts c.args.others.now)) j.calls) j) c.args.process xs x _
    (slice_get_read xs (length xs) c.args.process x refl below c.index_mut.ensures.value)
    (ap (λ (cs : List Call). record { vars = vars_of x.vars.items; doing = doing_of x.doing; calls = cs; handling = x.handling }) c.pass_call.ensures)

pub returns-else-process-len : goal.returns-else-process-len
returns-else-process-len c =
    let xs = c.args.jobs.now.items in
    let past : length xs ≤ c.args.process = omega (arith, c.if-process-len.false, c.len.ensures) in
    changed_past job_of (λ (j : Job). job_calls (calls_from (plain_stmts (placed_stmts c.args.others.now)) j.calls) j) c.args.process xs past
