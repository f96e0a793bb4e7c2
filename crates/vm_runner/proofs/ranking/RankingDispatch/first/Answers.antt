use Rattle.std.proofs.Common.{◌∙◌, ap, subst, sym}
use Rattle.machine_semantics.specs.State.{State}
use Rattle.machine_semantics.specs.Tick.{pick}
use Rattle.machine_semantics.specs.Run.{state_at}
use Rattle.vm_stretch.specs.Stretch.{place_of}
use Rattle.vm_runner.specs.Ranking.{IsRanking}
use Rattle.vm_runner.proofs.ranking.RankingDispatch.first.Goals as goal

pub returns-clause-chosen : goal.returns-clause-chosen
returns-clause-chosen c at it =
    c.told.ensures (record { image = at.image; threads = (state_at at.image at.script at.tick).threads }) it.plans.sees.knows
    ∙ ap (λ (s : State). place_of (pick at.image s.threads)) (sym it.calm)

pub returns-clause-row : goal.returns-clause-row
returns-clause-row c at it = subst (λ (s : State). IsRanking at.image s.threads c.args.self.now) (sym it.calm) it.plans.sees.knows

pub returns-clause-idle : goal.returns-clause-idle
returns-clause-idle c at it can none n step same = subst (λ (s : State). IsRanking at.image s.threads c.args.self.now) (sym same) it.plans.sees.knows
