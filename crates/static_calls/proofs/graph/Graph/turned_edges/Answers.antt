use Rattle.std.proofs.Common.{◌≡◌, ◌<◌, ◌+◌, ◌++◌, ℕ, [], length, map, get_or, ap, sym, ◌∙◌, subst, arith}
use Rattle.std.specs.Prelude.{All}
use Rattle.std.proofs.lemmas.List.Elements.{All-append, All-map, All-weaker}
use Rattle.static_calls.specs.Graph.{AreTurned, turned}
use Rattle.static_calls.proofs.Edges.{turned-more, edge-from}
use Rattle.static_calls.proofs.graph.Graph.turned_edges.Goals as goal

pub loop-node-preserved : goal.loop-node-preserved
loop-node-preserved c =
    let g = c.args.self.now in
    let n = c.loop-node.node in
    let edges = c.loop-node.edges.items in
    let grown : c.turn_row.new.edges.items ≡ edges ++ map (turned n) (get_or g n []) = c.in_ok-turn_row.ensures ∙ ap (λ row. edges ++ map (turned n) row) c.row.ensures.row in
    let node : n < length g = omega arith in
    let row : All (λ to. (to < length g) × (n < length g)) (get_or g n []) =
    subst (λ r. All (λ to. (to < length g) × (n < length g)) r) c.row.ensures.row (All-weaker (λ to. to < length g) (λ to. (to < length g) × (n < length g)) (λ to l. (l, node)) c.row.result.now c.row.ensures.within) in
    record {
      within = subst (λ es. All (λ (e : ℕ × ℕ). (e.0 < length g) × (e.1 < length g)) es) (sym grown)
          (All-append (λ (e : ℕ × ℕ). (e.0 < length g) × (e.1 < length g)) edges (map (turned n) (get_or g n [])) c.loop-node.invariant.within
          (All-map (λ (e : ℕ × ℕ). (e.0 < length g) × (e.1 < length g)) (turned n) (get_or g n []) row));
      turned = subst (AreTurned g (n + 1)) (sym grown) (turned-more g n edges c.loop-node.invariant.turned);
    }

pub returns-clause-turned : goal.returns-clause-turned
returns-clause-turned c a b =
    let is = c.loop-node.invariant.turned a b in
    ((λ h. (is.0 h).1), λ e. is.1 ((let l = edge-from c.args.self.now a b e in omega arith), e))
