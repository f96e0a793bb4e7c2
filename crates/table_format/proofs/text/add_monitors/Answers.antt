use Rattle.std.proofs.Common.{map, drop, ◌∷◌, [], List, ℕ, length, get_or, ◌≤◌, arith, ◌+◌}
use Rattle.std.proofs.lemmas.List.{get_or_default}
use Rattle.std.specs.Borrow.{Bor}
use Rattle.syntax_tree.specs.Placed.{monitor}
use Rattle.table_format.specs.Parts.{seen, declarations_text, monitor_with}
use Rattle.table_format.proofs.Texts.{declarations_none, declarations_both}
use Rattle.table_format.proofs.Turns.{turned, ended}
use Rattle.table_format.proofs.text.add_monitors.Goals as goal

abbrev nothing : Bor (List ℕ)
nothing = record { ref_ptr = (0, 0); now = [] }

pub loop-listed-preserved : goal.loop-listed-preserved
loop-listed-preserved c =
    let name = get_or c.args.names.now c.loop-listed.listed-index nothing in
    let one = monitor (monitor_with c.args.tail.now (seen c.args.stays.now) name.now) ∷ [] in
    turned (λ (ys : List (Bor (List ℕ))). declarations_text (map (λ n. monitor (monitor_with c.args.tail.now (seen c.args.stays.now) n)) (seen ys))) c.args.names.now c.loop-listed.listed-index name
    (declarations_text one) c.loop-listed.text c.add_monitor.new.text _
    (declarations_both one (map (λ n. monitor (monitor_with c.args.tail.now (seen c.args.stays.now) n)) (seen (drop (c.loop-listed.listed-index + 1) c.args.names.now)))) c.loop-listed-test.true
    (get_or_default c.args.names.now c.loop-listed.listed-index nothing name c.loop-listed-test.true) c.loop-listed.invariant c.in_ok-add_monitor.ensures

pub returns : goal.returns
returns c =
    let all : length c.args.names.now ≤ c.loop-listed.listed-index = omega (arith, c.loop-listed-test.false) in
    ended (λ (ys : List (Bor (List ℕ))). declarations_text (map (λ name. monitor (monitor_with c.args.tail.now (seen c.args.stays.now) name)) (seen ys))) c.args.names.now c.loop-listed.listed-index (c.loop-listed.text) _ (declarations_none) all c.loop-listed.invariant
