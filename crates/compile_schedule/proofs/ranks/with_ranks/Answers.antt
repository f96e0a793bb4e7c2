use Rattle.std.proofs.Common.{ℕ, List, subst}
use Rattle.compile_schedule.specs.Ranking.{HaveCeilings, HaveRanks}
use Rattle.compile_schedule.proofs.Filling.{image_ranked}
use Rattle.compile_schedule.proofs.ranks.with_ranks.Goals as goal

pub returns : goal.returns
returns c =
    image_ranked c.args.image c.in_ok-ranks.ranks.items c.in_ok-ceilings.ceilings.items c.ranked.result c.ceiled.result c.in_ok-ranks.ensures c.in_ok-ceilings.ensures
    (subst (λ (ranks : List ℕ). HaveRanks ranks c.args.image.processes c.ranked.result) c.deref-2.ensures.value c.ranked.ensures)
    (subst (λ (ceilings : List ℕ). HaveCeilings ceilings c.args.image.monitors c.ceiled.result) c.deref.ensures.value c.ceiled.ensures)
