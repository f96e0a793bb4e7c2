use Rattle.std.proofs.Common.{◌∙◌, subst, sym}
use Rattle.machine_semantics.specs.State.{State}
use Rattle.vm_stretch.specs.RowLaws.{begun}
use Rattle.vm_runner.specs.Ranking.{IsRanking}
use Rattle.vm_runner.proofs.ranking.RankingDispatch.follow.Goals as goal

pub note_all-requires : goal.note_all-requires
note_all-requires c = let it = c.requires.gone.1 in ((c.requires.gone.0).image, it.plan, it.board)

pub note-requires : goal.note-requires
note-requires c =
    let run = c.requires.gone.0 in
    let it = c.requires.gone.1 in
    record { who = c.requires.who; ranking = (record { image = run.image; threads = (begun run.image run.script run.tick).threads }, it.plan, it.board, it.knows) }

pub returns-then-is_some_at_queue : goal.returns-then-is_some_at_queue
returns-then-is_some_at_queue c run it can = subst (λ (s : State). IsRanking run.image s.threads c.note_all.new.self) it.state (c.note_all.ensures run.image it.plan it.board)

pub returns-else-is_some_at_queue : goal.returns-else-is_some_at_queue
returns-else-is_some_at_queue c run it can =
    subst (λ (s : State). IsRanking run.image s.threads c.note.new.self) it.state
    (c.note.ensures (record { image = run.image; threads = (begun run.image run.script run.tick).threads }) it.plan it.board it.knows (it.alone (sym c.is_some_at_queue.ensures ∙ c.if-is_some_at_queue.false)))
