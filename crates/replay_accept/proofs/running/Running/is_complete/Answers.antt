use Rattle.std.proofs.Common.{ℕ, subst}
use Rattle.std.specs.Prelude.{◌↔◌, IsTrue}
use Rattle.source_semantics.specs.Starts.{NoneMissing}
use Rattle.replay_state.specs.View.{config_of}
use Rattle.replay_script.specs.Cursors.{script_in}
use Rattle.replay_accept.specs.Running.{program_of}
use Rattle.replay_accept.proofs.running.Running.is_complete.Goals as goal

pub returns : goal.returns
returns c =
    subst (λ (t : ℕ). NoneMissing (program_of c.args.self.now.rules) (script_in c.args.script.now) (config_of c.args.self.now.config) t ↔ IsTrue c.is_none_missing.result) c.end.ensures
    c.is_none_missing.ensures
