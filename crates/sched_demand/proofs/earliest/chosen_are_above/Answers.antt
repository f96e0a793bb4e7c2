use Rattle.std.proofs.Common.{ap, sym, ◌∙◌}
use Rattle.sched_demand.proofs.Stacking.{chosen_above}
use Rattle.sched_demand.proofs.earliest.chosen_are_above.Goals as goal

pub returns : goal.returns
returns c = λ n rank deadline now a inside p q s stack chosen outside below is. chosen_above n rank deadline now a inside p stack chosen q s below (λ e. let h = sym outside ∙ ap inside e ∙ is in absurd (cc)) is
