use Rattle.std.proofs.Common.{◌<◌, ℕ, List, [], sym, ◌∙◌, subst}
use Rattle.std.specs.Prelude.{All}
use Rattle.syntax_tree.specs.Placed.{placed}
use Rattle.static_calls.specs.Graph.{HasEdges}
use Rattle.static_calls.specs.Tables.{declared_in, seen_routines, edges_of}
use Rattle.static_calls.proofs.CallEdges.{edges-within}
use Rattle.static_calls.proofs.rules_calls_graph.call_graph.Goals as goal

pub new-requires : goal.new-requires
new-requires c =
    let declared = declared_in (placed c.args.declarations.now) in
    let keys = c.args.numbers.now.keys in
    let rs = seen_routines c.args.routines.now in
    let P : ℕ → List (ℕ × ℕ) → Type 0 = λ size es. All (λ (e : ℕ × ℕ). (e.0 < size) × (e.1 < size)) es in
    subst (P c.len.result) (sym (c.as_slice.ensures.value ∙ c.in_ok-edges.ensures)) (subst (λ size. P size (edges_of declared keys rs [])) (sym c.len.ensures.len) (edges-within declared keys rs))

pub returns-clause-edges : goal.returns-clause-edges
returns-clause-edges c = subst (HasEdges c.in_ok-graph.graph) (c.as_slice.ensures.value ∙ c.in_ok-edges.ensures) c.in_ok-graph.ensures.edges
