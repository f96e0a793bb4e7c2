use Rattle.std.proofs.Common.{◌≡◌, subst}
use Rattle.std.specs.Prelude.{◌↔◌, IsTrue}
use Rattle.base.specs.declared.event.Act.{Act}
use Rattle.replay_state.specs.View.{action_of, config_of, next_of}
use Rattle.replay_script.specs.Cursors.{script_in}
use Rattle.replay_accept.proofs.Steps.{told_saved}
use Rattle.replay_accept.proofs.telling.is_told.Goals as goal

pub returns : goal.returns
returns c = λ g k.
    subst (λ (b : Act). IsTrue c.is_told_by.result ↔ (c.args.act ≡ b))
    (told_saved g (script_in c.args.script.now) (config_of c.args.config.now) c.args.tick k (next_of c.args.next.now) (action_of c.args.next.now.action))
    (c.is_told_by.ensures g k)
