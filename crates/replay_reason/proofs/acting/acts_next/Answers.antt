use Rattle.std.proofs.Common.{◌∙◌, ◌<◌, ℕ, subst}
use Rattle.std.proofs.lemmas.List.{length-map}
use Rattle.replay_state.specs.View.{config_of, job_of}
use Rattle.replay_accept.specs.Running.{program_of}
use Rattle.replay_reason.proofs.Readiness.{is_next, not_ready, within}
use Rattle.replay_reason.proofs.acting.acts_next.Goals as goal

pub is_first-requires : goal.is_first-requires
is_first-requires c = (
  c.requires.rules.ranks,
  (
    c.requires.fits,
    within (config_of c.args.config.now) c.args.process (c.is_ready.ensures.0 c.if-is_ready.true),
  ),
)

pub returns-then-is_ready : goal.returns-then-is_ready
returns-then-is_ready c =
    is_next (program_of c.args.rules.now) (config_of c.args.config.now) c.args.process c.is_first.result (c.is_ready.ensures.0 c.if-is_ready.true) c.is_first.ensures

pub returns-else-is_ready : goal.returns-else-is_ready
returns-else-is_ready c =
    not_ready (program_of c.args.rules.now) (config_of c.args.config.now) c.args.process c.is_ready.result c.is_ready.ensures c.if-is_ready.false
