use Rattle.std.proofs.Common.{arith}
use Rattle.std.proofs.lemmas.List.{length-map}
use Rattle.replay_state.specs.View.{config_of, job_of}
use Rattle.replay_accept.specs.Running.{program_of}
use Rattle.replay_reason_spec.proofs.Firsts.{none_ready}
use Rattle.replay_reason.proofs.acting.first_ready.Goals as goal

pub returns-clause-none : goal.returns-clause-none
returns-clause-none c =
    none_ready (program_of c.args.rules.now) (config_of c.args.config.now)
    (λ k low next. c.loop-process.invariant k (omega (arith, low, length-map c.args.config.now.jobs.items job_of, c.len-process-end.ensures, c.loop-process-test.false)) next)
