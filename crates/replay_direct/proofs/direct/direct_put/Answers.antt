use Rattle.std.proofs.Common.{rules, w64}
use Rattle.std.proofs.lemmas.Int.{to_z-of_z}
use Rattle.replay_state.specs.View.{vars_of}
use Rattle.replay_state.specs.declared.call.CallOwner.TheVariants as home_is
use Rattle.replay_calls.specs.Reach.{site_of}
use Rattle.replay_direct.specs.Direct.{memory_beside}
use Rattle.replay_direct.proofs.Known.{put_known}
use Rattle.replay_direct.proofs.direct.direct_put.Goals as goal

pub returns : goal.returns
returns c =
    let w = c.in-Put in
    λ monitor. put_known (site_of c.args.scope.now home_is.Process c.args.depth) (memory_beside (vars_of c.args.process.now) monitor)
    c.args.stmt.now w.place w.device w.device_place w.value c.device_here.result c.in_ok-value.value _ w.is
    (c.in_ok-value.ensures monitor) c.device_here.ensures (to_z-of_z w64 c.in_ok-value.value (search rules))
