use Rattle.std.proofs.Common.{drop, ◌∷◌, [], List, ℕ, length, get_or, ◌≤◌, arith, ◌+◌}
use Rattle.std.proofs.lemmas.List.{get_or_default}
use Rattle.table_format.specs.Parts.{entries_text}
use Rattle.table_format.proofs.Pieces.{entries_first, entries_none}
use Rattle.table_format.proofs.Turns.{turned, ended}
use Rattle.table_format.proofs.monitors.add_entries.Goals as goal

pub loop-ticks-preserved : goal.loop-ticks-preserved
loop-ticks-preserved c =
    let ticks = get_or c.args.all.now c.loop-ticks.ticks-index 0 in
    turned (λ (ys : List ℕ). entries_text c.args.tail.now ys) c.args.all.now c.loop-ticks.ticks-index ticks (entries_text c.args.tail.now (ticks ∷ [])) c.loop-ticks.text c.add_entry.new.text _
    (entries_first c.args.tail.now ticks (drop (c.loop-ticks.ticks-index + 1) c.args.all.now)) c.loop-ticks-test.true
    (get_or_default c.args.all.now c.loop-ticks.ticks-index 0 ticks c.loop-ticks-test.true) c.loop-ticks.invariant c.in_ok-add_entry.ensures

pub returns : goal.returns
returns c =
    let all : length c.args.all.now ≤ c.loop-ticks.ticks-index = omega (arith, c.loop-ticks-test.false) in
    ended (λ (ys : List ℕ). entries_text c.args.tail.now ys) c.args.all.now c.loop-ticks.ticks-index (c.loop-ticks.text) _ (entries_none c.args.tail.now) all c.loop-ticks.invariant
