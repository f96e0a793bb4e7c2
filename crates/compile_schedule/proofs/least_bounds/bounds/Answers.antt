use Rattle.std.proofs.Common.{◌≡◌, ◌<◌, ◌∙◌, List, length, get_or, arith, ap, subst}
use Rattle.image.specs.declared.raw.RawProcess.{RawProcess}
use Rattle.image.specs.Raw.{image_of}
use Rattle.loader.proofs.InOrder.{level_there}
use Rattle.compile_schedule.proofs.Growing.{none_bounds, one_bound, all_bounds}
use Rattle.compile_schedule.proofs.least_bounds.bounds.Goals as goal
use Rattle.code_measures.proofs.Valid.{no_rank_fault}

pub task_set-requires-clause-ranks : goal.task_set-requires-clause-ranks
task_set-requires-clause-ranks c = no_rank_fault (image_of c.args.image.now) c.requires.ranks

pub loop-number-init : goal.loop-number-init
loop-number-init c = none_bounds (image_of c.args.image.now) c.new-all.result c.new-all.ensures

pub process_bound-bound-requires : goal.process_bound-bound-requires
process_bound-bound-requires c =
    level_there c.args.image.now c.as_slice-processes.result.now c.in_ok-set.set c.loop-number.number c.index-processes-number.result (no_rank_fault (image_of c.args.image.now) c.requires.ranks)
    c.in_ok-set.ensures c.as_slice-processes.ensures c.loop-number-test.true c.index-processes-number.is

pub loop-number-preserved : goal.loop-number-preserved
loop-number-preserved c =
    let p = c.index-processes-number.result in
    let k = c.loop-number.number in
    one_bound c.args.image.now c.in_ok-set.set k c.loop-number.all c.push.new.self p c.process_bound-bound.result
    (subst (λ (ps : List RawProcess). k < length ps) c.as_slice-processes.ensures c.loop-number-test.true)
    (c.index-processes-number.is ∙ ap (λ (ps : List RawProcess). get_or ps k p) c.as_slice-processes.ensures) c.in_ok-set.ensures c.process_bound-bound.ensures c.in_ok-push.ensures.ok c.loop-number.invariant

pub returns : goal.returns
returns c =
    let all : c.loop-number.number ≡ length c.as_slice-processes.result.now = omega arith in
    all_bounds c.args.image.now c.loop-number.number c.loop-number.all (all ∙ ap (λ (ps : List RawProcess). length ps) c.as_slice-processes.ensures) c.loop-number.invariant
