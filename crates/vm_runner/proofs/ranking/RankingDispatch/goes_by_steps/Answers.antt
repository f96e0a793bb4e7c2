use Rattle.std.proofs.Common.{◌∙◌, ap, subst, sym}
use Rattle.machine_semantics.specs.State.{State, Thread}
use Rattle.std.proofs.Common.{List}
use Rattle.machine_semantics.specs.Tick.{pick}
use Rattle.vm_stretch.specs.Stretch.{place_of}
use Rattle.vm_stretch.specs.RowLaws.{begun}
use Rattle.vm_stretch.proofs.StretchMoving.{pick_same}
use Rattle.vm_runner.specs.Ranking.{IsRanking}
use Rattle.vm_runner.proofs.Again.{ranking_stays}
use Rattle.vm_runner.proofs.ByRanks.{goes_by_steps}
use Rattle.vm_runner.proofs.ranking.RankingDispatch.goes_by_steps.Goals as goal

pub returns-clause-steps : goal.returns-clause-steps
returns-clause-steps c image script can = goes_by_steps image script can

pub returns-clause-again : goal.returns-clause-again
returns-clause-again c run who can on =
    let old : List Thread = (begun run.image run.script run.tick).threads in
    let there = ap (λ (s : State). s.threads) on.calm ∙ on.threads in
    record {
      chosen = ap (λ (ts : List Thread). place_of (pick run.image ts)) there ∙ ap (λ (o : _). place_of o) (pick_same run.image old who on.job on.new on.ready on.inside) ∙ on.chosen;
      knows = λ d is. subst (λ (ts : List Thread). IsRanking run.image ts d) (sym there) (ranking_stays run.image old who on.job on.new d on.ready on.inside is);
    }
