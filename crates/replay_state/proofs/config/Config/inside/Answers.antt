use Rattle.std.proofs.Common.{sym, ◌∙◌, ap}
use Rattle.std.specs.List.{position_from}
use Rattle.std.proofs.lemmas.Iterator.Adapters.{position_from-zero}
use Rattle.source_semantics.specs.Config.{Hold, is_process}
use Rattle.replay_state.specs.View.{holds_of}
use Rattle.replay_state.proofs.config.Config.inside.Goals as goal

pub returns : goal.returns
returns c =
    c.first_held.ensures
    ∙ (ap (λ hs. position_from (λ (h : Hold). is_process c.args.process h.occupant) 0 (holds_of hs)) c.as_slice.ensures.value
    ∙ sym (position_from-zero (λ (h : Hold). is_process c.args.process h.occupant) (holds_of c.args.self.now.holds.items)))
