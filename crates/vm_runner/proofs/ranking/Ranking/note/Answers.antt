use Rattle.std.proofs.Common.{◌≡◌, ◌<◌, ◌∙◌, List, length, arith, ap, sym}
use Rattle.std.specs.Prelude.{slice_set}
use Rattle.std.proofs.lemmas.List.{length-set}
use Rattle.base.proofs.Lists.{some_at}
use Rattle.vm_releases.proofs.Boards.{as_many, cells_count}
use Rattle.vm_releases.proofs.Joining.{threads_count}
use Rattle.vm_state.proofs.Waking.{thread_at}
use Rattle.vm_state.specs.Board.{state_of}
use Rattle.vm_turn.proofs.Turning.{process_is, read_at}
use Rattle.vm_runner.specs.declared.ranking.Precedence.{Precedence}
use Rattle.vm_runner.specs.Ranking.{least_of}
use Rattle.vm_runner.proofs.Foremost.{least_set, ranked, refilled}
use Rattle.vm_runner.proofs.ranking.Ranking.note.Goals as goal

pub index-requires : goal.index-requires
index-requires c =
    let it = c.requires.ranking in
    omega (arith, c.requires.who, as_many (it.0).image.processes c.args.plan.now.processes.items it.1.processes, cells_count (it.0).image c.args.board.now.cells.items it.2.rooms, c.args.plan.now.processes.ok.0, c.args.board.now.cells.ok.0)

pub precedence_of-precedence-requires : goal.precedence_of-precedence-requires
precedence_of-precedence-requires c =
    let it = c.requires.ranking in
    omega (arith, c.requires.who, cells_count (it.0).image c.args.board.now.cells.items it.2.rooms, c.args.board.now.cells.ok.0, it.1.few)

pub returns-then-precedence-self : goal.returns-then-precedence-self
returns-then-precedence-self c at plan board ranking others =
    let who = c.args.who in
    let now = c.precedence_of-precedence.result in
    let old : List Precedence = c.args.self.now.precedences.items in
    let cells = c.args.board.now.cells.items in
    let count = cells_count at.image cells board.rooms in
    let all = as_many at.image.processes c.args.plan.now.processes.items plan.processes in
    let below : who < length cells = omega (arith, c.requires.who, c.args.board.now.cells.ok.0) in
    let known = read_at c.args.plan.now.processes.items who c.index.result.now (omega (arith, below, count, all)) c.index.ensures in
    let whole = some_at at.image.processes who (omega (arith, below, count)) in
    let is = process_is at.image.processes c.args.plan.now.processes.items who whole.0 c.index.result.now plan.processes whole.1 known in
    let thread = thread_at cells who c.index-2.result.now below c.index-2.ensures in
    let many = ranking.count in
    let written : slice_set c.as_mut_slice.result.now who now ≡ slice_set old who now = ap (λ (es : List Precedence). slice_set es who now) c.as_mut_slice.ensures.value in
    let same = refilled old (slice_set c.as_mut_slice.result.now who now) (ap length written ∙ length-set old who now) ∙ written in
    let least = least_set old who now (omega (arith, below, count, many)) (omega (arith, c.if-precedence-self.true, ranking.least)) in
    ranked at.image at.threads (state_of c.args.board.now).threads c.args.self.now _ who now whole.0 _ ranking (threads_count cells ∙ count) whole.1 thread (c.precedence_of-precedence.ensures at.image whole.0 plan is) others same (sym least)

pub returns-else-precedence-self : goal.returns-else-precedence-self
returns-else-precedence-self c at plan board ranking others =
    let who = c.args.who in
    let now = c.precedence_of-precedence.result in
    let old : List Precedence = c.args.self.now.precedences.items in
    let cells = c.args.board.now.cells.items in
    let count = cells_count at.image cells board.rooms in
    let all = as_many at.image.processes c.args.plan.now.processes.items plan.processes in
    let below : who < length cells = omega (arith, c.requires.who, c.args.board.now.cells.ok.0) in
    let known = read_at c.args.plan.now.processes.items who c.index.result.now (omega (arith, below, count, all)) c.index.ensures in
    let whole = some_at at.image.processes who (omega (arith, below, count)) in
    let is = process_is at.image.processes c.args.plan.now.processes.items who whole.0 c.index.result.now plan.processes whole.1 known in
    let thread = thread_at cells who c.index-2.result.now below c.index-2.ensures in
    let written : slice_set c.as_mut_slice.result.now who now ≡ slice_set old who now = ap (λ (es : List Precedence). slice_set es who now) c.as_mut_slice.ensures.value in
    let same = refilled old (slice_set c.as_mut_slice.result.now who now) (ap length written ∙ length-set old who now) ∙ written in
    ranked at.image at.threads (state_of c.args.board.now).threads c.args.self.now _ who now whole.0 _ ranking (threads_count cells ∙ count) whole.1 thread (c.precedence_of-precedence.ensures at.image whole.0 plan is) others same
    (c.least_of-self.ensures ∙ ap (λ (es : List Precedence). least_of es) (c.as_slice.ensures.value ∙ same))
