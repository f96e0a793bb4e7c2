use Rattle.std.proofs.Common.{◌∙◌, true, rules, w32, w64}
use Rattle.std.proofs.lemmas.Int.{to_z-of_z}
use Rattle.source_semantics.specs.Config.{at_tick}
use Rattle.source_semantics.specs.Source.{saved}
use Rattle.source_semantics.specs.Starts.{device_value}
use Rattle.replay_state.specs.View.{config_of, jobs_of, next_of}
use Rattle.replay_script.specs.Cursors.{script_in}
use Rattle.replay_accept.proofs.Steps.{given_to}
use Rattle.replay_accept.proofs.source_actions.get.Goals as goal

pub returns : goal.returns
returns c =
    given_to c.args.process _ (device_value (script_in c.args.script.now) c.args.tick c.args.device)
    (saved (at_tick (config_of c.args.config.now) c.args.tick true) c.args.process (next_of c.args.next)) (config_of c.save.new.config) (jobs_of c.give.new.jobs.items)
    c.give.ensures
    (to_z-of_z w64 c.from-value.result (search rules) ∙ (c.from-value.ensures ∙ (to_z-of_z w32 c.device_value.result (search rules) ∙ c.device_value.ensures)))
    c.save.ensures
