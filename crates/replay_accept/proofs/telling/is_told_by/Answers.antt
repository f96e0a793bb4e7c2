use Rattle.std.proofs.Common.{◌≡◌, ◌∙◌, ℤ, sym, subst, rules, w32}
use Rattle.std.specs.Prelude.{◌↔◌, IsTrue}
use Rattle.std.proofs.lemmas.Int.{to_z-of_z}
use Rattle.base.specs.declared.event.Act.TheVariants as act_is
use Rattle.source_semantics.specs.Source.{effect}
use Rattle.replay_state.specs.View.{action_of, config_of}
use Rattle.replay_state.specs.declared.call.Action.{Action}
use Rattle.replay_script.specs.Cursors.{script_in}
use Rattle.replay_accept.proofs.telling.is_told_by.Goals as goal

pub returns-in-Gets : goal.returns-in-Gets
returns-in-Gets c = λ g k.
    subst (λ (a : Action). IsTrue c.is_get.result ↔ (c.args.act ≡ (effect g (script_in c.args.script.now) c.args.tick k (action_of a) (config_of c.args.config.now)).act)) (sym c.in-Gets.is)
    (subst (λ (v : ℤ). IsTrue c.is_get.result ↔ (c.args.act ≡ act_is.Get c.in-Gets.dev v)) (to_z-of_z w32 c.device_value.result (search rules) ∙ c.device_value.ensures) c.is_get.ensures)
