use Rattle.std.proofs.Common.{◌<◌, ℕ, subst}
use Rattle.std.proofs.lemmas.List.{length-map}
use Rattle.replay_state.specs.View.{job_of}
use Rattle.replay_reason.proofs.acting.is_first.Goals as goal

pub is_first-requires : goal.is_first-requires
is_first-requires g c =
    (c.requires.0, (c.requires.1.0, subst (λ (n : ℕ). c.args.process < n) (length-map c.args.config.now.jobs.items job_of) c.requires.1.1))
