use Rattle.std.proofs.Common.{nat_lt, sym, ◌∙◌, ap}
use Rattle.source_semantics.specs.Ranks.{rank}
use Rattle.replay_state.specs.View.{config_of}
use Rattle.replay_state.proofs.Free.{by_rank_alone}
use Rattle.replay_state.proofs.ranks.Ranks.is_of_less_rank.Goals as goal

pub returns : goal.returns
returns g c =
    ap (λ r. nat_lt r c.args.rank) c.rank.ensures
    ∙ (ap (nat_lt (rank g.program c.args.process)) c.requires.1.1.1.1
    ∙ sym (by_rank_alone g.program (config_of c.args.config.now) c.args.process c.args.other c.requires.1.1.0))
