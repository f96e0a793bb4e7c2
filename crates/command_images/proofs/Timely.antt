-- The runs of valid images are such as the chart takes.
use Rattle.std.specs.Prelude.{All}
use Rattle.base.proofs.Lists.{all_of, one_of}
use Rattle.command_answers.specs.Acts.{CanRunByRanks}
use Rattle.event_log.specs.InRange.{AreIn}
use Rattle.image.specs.Named.{NamedImage}
use Rattle.machine_semantics.specs.Run.{events}
use Rattle.script.specs.declared.script.Script.{Script}
use Rattle.vm_chart.specs.Follows.{IsBeforeLastTick}
use Rattle.vm_law.proofs.Ticking.{valid_runs_have_lines}
use Rattle.vm_releases.specs.Begin.{script_of}

pub runs_are_timely : (n : NamedImage) (script : Script) → CanRunByRanks n script → All IsBeforeLastTick (events n.image (script_of script))
runs_are_timely n script can =
    let lines : All (AreIn n.names) (events n.image (script_of script)) = valid_runs_have_lines n.names n.image (script_of script) can.limits can.valid can.names can.script.end in
    all_of IsBeforeLastTick (events n.image (script_of script)) (λ k e at. (one_of (AreIn n.names) (events n.image (script_of script)) k e lines at).tick)
