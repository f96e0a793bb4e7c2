use Rattle.std.proofs.Common.{◌≡◌, ◌*◌, ◌-◌, ap, arith}
use Rattle.sched_response.specs.declared.tasks.Task.{Task}
use Rattle.sched_response.specs.Demand.{deadline_at}
use Rattle.sched_response.proofs.Shares.{solved_work, work_left, none_left, some_ticks}
use Rattle.sched_response.proofs.floor.response_floor.Goals as goal

pub returns-then-work-eq0-clause-some : goal.returns-then-work-eq0-clause-some
returns-then-work-eq0-clause-some c =
    let same : c.task-own.result.deadline ≡ deadline_at c.args.set.now c.args.level = ap (λ (t : Task). t.deadline) c.task-own.ensures.value in
    record { above = omega arith; within = omega (arith, same, c.task-own.ensures.range.deadline_low); below = λ r s. s.above }

pub returns-then-taken-ge-WHOLE-clause-none : goal.returns-then-taken-ge-WHOLE-clause-none
returns-then-taken-ge-WHOLE-clause-none c = λ r s.
    let own = c.task-own.result in
    let fits = solved_work 17179869184 c.shares-taken.result c.cap_add-work.result c.args.set.now c.args.level r own c.higher.result.now c.task-own.ensures.value c.higher.ensures.value (omega (arith, c.task-own.ensures.range.deadline_high, c.task-own.ensures.range.frame_high)) (rw (← c.activation_of.ensures) c.cap_add-work.ensures) (c.shares-taken.ensures.less r) s in
    none_left 17179869184 c.cap_add-work.result c.shares-taken.result r (omega arith) (omega arith) (omega arith) fits

pub returns-then-floor-own-clause-none : goal.returns-then-floor-own-clause-none
returns-then-floor-own-clause-none c = λ r s.
    let own = c.task-own.result in
    let same : own.deadline ≡ deadline_at c.args.set.now c.args.level = ap (λ (t : Task). t.deadline) c.task-own.ensures.value in
    let fits = solved_work 17179869184 c.shares-taken.result c.cap_add-work.result c.args.set.now c.args.level r own c.higher.result.now c.task-own.ensures.value c.higher.ensures.value (omega (arith, c.task-own.ensures.range.deadline_high, c.task-own.ensures.range.frame_high)) (rw (← c.activation_of.ensures) c.cap_add-work.ensures) (c.shares-taken.ensures.less r) s in
    let left = work_left 17179869184 c.cap_add-work.result c.shares-taken.result r (omega arith) fits in
    let least = c.ceil_div-floor.ensures.least r left in
    omega (arith, least, s.within, same)

pub returns-clause-some : goal.returns-clause-some
returns-clause-some c =
    let own = c.task-own.result in
    let same : own.deadline ≡ deadline_at c.args.set.now c.args.level = ap (λ (t : Task). t.deadline) c.task-own.ensures.value in
    record {
      above = some_ticks (c.cap_add-work.result * 17179869184) c.ceil_div-floor.result (17179869184 - c.shares-taken.result) (omega arith) c.ceil_div-floor.ensures.reaches;
      within = omega (arith, same);
      below = λ r s.
          let fits = solved_work 17179869184 c.shares-taken.result c.cap_add-work.result c.args.set.now c.args.level r own c.higher.result.now c.task-own.ensures.value c.higher.ensures.value (omega (arith, c.task-own.ensures.range.deadline_high, c.task-own.ensures.range.frame_high)) (rw (← c.activation_of.ensures) c.cap_add-work.ensures) (c.shares-taken.ensures.less r) s in
          c.ceil_div-floor.ensures.least r (work_left 17179869184 c.cap_add-work.result c.shares-taken.result r (omega arith) fits);
    }
