use Rattle.replay_calls.specs.Reach.{area_of}
use Rattle.replay_calls.specs.Seen.{answer_of}
use Rattle.replay_next.specs.Driving.{others_of}
use Rattle.replay_next.proofs.Waiting.{answer_goes}
use Rattle.replay_next.proofs.driving.answer_given.Goals as goal

pub returns-clause-run : goal.returns-clause-run
returns-clause-run c = λ s.
    let p = c.args.running.now in
    let now = others_of p.kept c.args.memory.now in
    let after = c.back_beside.new.memory in
    answer_goes s p.callers.items c.args.caller now c.back_beside.new.kept (area_of after.process) (area_of after.monitor) (answer_of c.args.answer)
    c.back_beside.ensures.process c.back_beside.ensures.monitor c.back_beside.ensures.kept
