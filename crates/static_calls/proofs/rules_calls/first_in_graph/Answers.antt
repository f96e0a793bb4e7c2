use Rattle.std.proofs.Common.{◌≡◌, ℕ, Bool, true, List, [], refl, sym, subst}
use Rattle.syntax_tree.specs.Placed.{placed}
use Rattle.static_rule.specs.First.{IsFirstOf}
use Rattle.static_calls.specs.Graph.{ReachesOne, marked}
use Rattle.static_calls.specs.Reaching.{ReachFails}
use Rattle.static_calls.specs.Tables.{seen_routines, seen_processes, waiters}
use Rattle.static_calls.proofs.Failing.{first-of-tables}
use Rattle.static_calls.proofs.rules_calls.first_in_graph.Goals as goal

pub returns : goal.returns
returns c =
    let g = placed c.args.declarations.now in
    let slice = c.args.routines.now in
    let keys = c.args.numbers.now.keys in
    let graph = c.args.graph in
    let P : List Bool → Type 0 = λ marks. (n : ℕ) → (marked marks n ≡ true → ReachesOne graph (waiters keys (seen_routines slice) []) n) × (ReachesOne graph (waiters keys (seen_routines slice) []) n → marked marks n ≡ true) in
    subst (IsFirstOf (ReachFails g)) (sym c.sooner.ensures)
    (first-of-tables g (seen_routines slice) (seen_processes c.args.processes.now) keys graph graph c.as_slice.result.now c.in_ok-round.round c.in_ok-waiting.waiting c.requires.routines c.requires.processes
    c.requires.numbers c.requires.edges (subst P (sym c.as_slice.ensures.value) c.in_ok-marks.ensures) refl c.in_ok-round.ensures c.in_ok-waiting.ensures)
