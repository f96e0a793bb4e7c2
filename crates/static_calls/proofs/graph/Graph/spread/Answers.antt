use Rattle.std.proofs.Common.{◌≡◌, ◌<◌, ◌≤◌, [], List, ℕ, length, get_or, ap, ◌∙◌, subst, arith}
use Rattle.static_calls.specs.Marks.{AreMarked}
use Rattle.static_calls.proofs.Spreading.{follow-more, follow-all, none-left}
use Rattle.static_calls.proofs.graph.Graph.spread.Goals as goal

pub returns-in_default : goal.returns-in_default
returns-in_default c =
    let past : length c.loop-turn.found.items ≤ c.loop-turn.turn = omega (arith, c.in_default.ensures.lookup.3, ap length c.deref.ensures.value) in
    follow-all c.args.self.now c.args.marks.now c.loop-turn.turn c.loop-turn.found.items c.loop-turn.marks c.loop-turn.invariant past

pub loop-turn-preserved : goal.loop-turn-preserved
loop-turn-preserved c =
    let g = c.args.self.now in
    let marks = c.loop-turn.marks in
    let found = c.loop-turn.found.items in
    let turn = c.loop-turn.turn in
    let node = c.in-Some.field-0.now in
    let read = c.in-Some.ensures.lookup in
    let below : turn < length found = omega (arith, read.3.0, ap length c.deref.ensures.value) in
    let is : node ≡ get_or found turn 0 = read.3.1 0 ∙ ap (λ (l : List ℕ). get_or l turn 0) c.deref.ensures.value in
    let more : AreMarked marks found (get_or g node []) c.mark_all.new.marks c.mark_all.new.found.items =
    subst (λ (l : List ℕ). AreMarked marks found l c.mark_all.new.marks c.mark_all.new.found.items) c.row.ensures.row c.in_ok-mark_all.ensures in
    follow-more g c.args.marks.now turn found marks node c.mark_all.new.found.items c.mark_all.new.marks c.loop-turn.invariant below is more

pub returns : goal.returns
returns c =
    let f = c.loop-turn.invariant in
    follow-all c.args.self.now c.args.marks.now c.loop-turn.turn c.loop-turn.found.items c.loop-turn.marks f (omega (arith, none-left c.loop-turn.marks c.loop-turn.found.items f.listed))
