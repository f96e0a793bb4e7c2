use Rattle.std.proofs.Common.{◌≡◌, ◌≤◌, ◌*◌, ◌+◌, ℕ, arith, ap, sym, subst, ◌∙◌}
use Rattle.std.proofs.lemmas.List.Sums.{sum_by_more}
use Rattle.std.proofs.Math.Nat.{mul-le-mul}
use Rattle.sched_demand.specs.Demand.{task_at, due_by, IsNext}
use Rattle.sched_demand.proofs.Turns.{next_sooner, next_kept, block_some, block_none}
use Rattle.sched_demand.proofs.looking.look_at.Goals.{then-turns-gt0, else-turns-gt0, then-after-next, else-after-next}
use Rattle.sched_demand.proofs.looking.look_at.Goals as goal
use Rattle.sched_demand.proofs.Demanding.{is_task}

pub loop-task-preserved : goal.loop-task-preserved
loop-task-preserved c =
    let ts = c.args.tasks.now in
    let i : ℕ = c.loop-task.task-index in
    let old = c.loop-task.invariant in
    let turns : ℕ = c.due-turns.result in
    let is : c.due-turns.result ≡ due_by c.args.t (task_at c.args.tasks.now c.loop-task.task-index) = c.due-turns.ensures.value in
    let x = is_task c.args.tasks.now c.loop-task.task-index c.requires.tasks c.loop-task-test.true in
    let more = sum_by_more (λ x. due_by c.args.t x * x.cost) c.args.tasks.now c.loop-task.task-index (record { frame = 0; deadline = 0; cost = 0; block = 0 }) c.loop-task-test.true in
    let product : c.due-turns.result * (task_at c.args.tasks.now c.loop-task.task-index).cost ≡ due_by c.args.t (task_at c.args.tasks.now c.loop-task.task-index) * (task_at c.args.tasks.now c.loop-task.task-index).cost = ap (λ n. n * (task_at c.args.tasks.now c.loop-task.task-index).cost) is in
    let few : c.due-turns.result * (task_at c.args.tasks.now c.loop-task.task-index).cost ≤ 100000000 * 1000000001 = mul-le-mul c.due-turns.ensures.range x.cost in
    record {
      value = omega (arith, old.value, more, product);
      range = omega (arith, old.range, few);
      block = elim c.if-turns-gt0.branch [
        | then-turns-gt0 w ↦ w.block-is ∙ sym (block_some c.args.tasks.now c.args.t c.loop-task.task-index c.due-turns.result is w.if-turns-gt0.true)
        | else-turns-gt0 w ↦ w.block-is ∙ old.block ∙ sym (block_none c.args.tasks.now c.args.t c.loop-task.task-index c.due-turns.result is (omega (arith, w.if-turns-gt0)))
      ];
      small = elim c.if-turns-gt0.branch [
        | then-turns-gt0 w ↦ omega (arith, w.block-is, x.block)
        | else-turns-gt0 w ↦ omega (arith, w.block-is, old.small)
      ];
      next = elim c.if-after-next.branch [
        | then-after-next w ↦ subst (λ n. IsNext c.args.tasks.now c.args.t (c.loop-task.task-index + 1) n) (sym w.next-is) (next_sooner c.args.tasks.now c.args.t c.loop-task.task-index c.loop-task.next c.due-turns.result c.requires.tasks c.loop-task-test.true old.next is w.if-after-next.true)
        | else-after-next w ↦ subst (λ n. IsNext c.args.tasks.now c.args.t (c.loop-task.task-index + 1) n) (sym w.next-is) (next_kept c.args.tasks.now c.args.t c.loop-task.task-index c.loop-task.next c.due-turns.result c.requires.tasks c.loop-task-test.true old.next is (omega (arith, w.if-after-next)))
      ];
    }
