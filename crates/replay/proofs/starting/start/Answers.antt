use Rattle.std.proofs.Common.{◌≡◌, ◌∙◌, ap, arith}
use Rattle.source_semantics.specs.Config.{start}
use Rattle.replay_state.specs.View.{config_of}
use Rattle.replay_accept.specs.Running.{program_of}
use Rattle.replay_due_events.specs.NextDue.{doing_due}
use Rattle.replay_due_events.proofs.Waits.{least_of_all}
use Rattle.replay.proofs.Fitting.{fits_at_start}
use Rattle.replay.proofs.starting.start.Goals as goal

pub returns : goal.returns
returns c =
    let g = program_of c.in_ok-rules.rules in
    let config = config_of c.in_ok-config.config in
    let is : config ≡ start g = c.in_ok-config.ensures in
    let tick : config.tick ≡ 0 = ap (λ d. d.tick) is in
    record {
      stands = record { rules = c.in_ok-rules.ensures.rules; fits = fits_at_start g config is; tick = omega (arith, tick); quiet = record { clock = λ u k x low high at. absurd (omega (arith, high)); waits = λ k j at. least_of_all (doing_due 0 j.doing) }; first = tt };
      program = c.in_ok-rules.ensures.program;
      start = is ∙ ap start c.in_ok-rules.ensures.program;
    }
