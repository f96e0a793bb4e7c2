use Rattle.std.proofs.Common.{◌≡◌, List, Some, ap, subst, true}
use Rattle.std.specs.Prelude.{slice_get}
use Rattle.source_semantics.specs.Config.{Job}
use Rattle.replay_state.specs.View.{config_of, jobs_of}
use Rattle.replay_state.specs.declared.config.ProcessState.{ProcessState}
use Rattle.replay_due_events.specs.NextDue.{doing_due, is_after}
use Rattle.replay_due_events.proofs.Waits.{quiet_with}
use Rattle.replay_due_events.proofs.clock.quiet_until.Goals as goal

pub returns-then-config-known : goal.returns-then-config-known
returns-then-config-known c =
    quiet_with c.args.timings.now (config_of c.args.config.now) c.args.process c.earlier.result c.args.known c.time_out_of.result c.earlier.ensures.first c.earlier.ensures.second
    c.requires.clock c.requires.others
    (subst (λ (l : List ProcessState). (j : Job) → slice_get (jobs_of l) c.args.process ≡ Some j → is_after c.time_out_of.result (doing_due 0 j.doing) ≡ true) c.as_slice.ensures.value c.time_out_of.ensures)
