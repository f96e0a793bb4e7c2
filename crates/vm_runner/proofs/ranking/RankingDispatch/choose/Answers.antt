use Rattle.std.proofs.Common.{◌∙◌, ap, subst, sym}
use Rattle.machine_semantics.specs.State.{State}
use Rattle.machine_semantics.specs.Tick.{pick}
use Rattle.vm_state.specs.Board.{state_of}
use Rattle.vm_stretch.specs.Stretch.{place_of}
use Rattle.vm_runner.specs.Ranking.{IsRanking}
use Rattle.vm_runner.proofs.ranking.RankingDispatch.choose.Goals as goal

pub note_all-requires : goal.note_all-requires
note_all-requires c = let it = c.requires.sees.1 in ((c.requires.sees.0).image, it.plan, it.sees.board)

pub returns-clause-chosen : goal.returns-clause-chosen
returns-clause-chosen c at it =
    c.told.ensures (record { image = at.image; threads = (state_of c.args.board.now).threads }) (c.note_all.ensures at.image it.plan it.sees.board)
    ∙ ap (λ (s : State). place_of (pick at.image s.threads)) it.sees.state

pub returns-clause-row : goal.returns-clause-row
returns-clause-row c at it = subst (λ (s : State). IsRanking at.image s.threads c.note_all.new.self) it.sees.state (c.note_all.ensures at.image it.plan it.sees.board)

pub returns-clause-idle : goal.returns-clause-idle
returns-clause-idle c at it can none n step same = subst (λ (s : State). IsRanking at.image s.threads c.note_all.new.self) (it.sees.state ∙ sym same) (c.note_all.ensures at.image it.plan it.sees.board)
