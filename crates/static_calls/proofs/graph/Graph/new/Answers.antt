use Rattle.std.proofs.Common.{◌≡◌, ◌<◌, ◌+◌, ◌++◌, length, take, drop, get_or, ap, sym, ◌∙◌, subst, arith}
use Rattle.std.proofs.lemmas.List.{length-map, take_all}
use Rattle.static_calls.specs.Graph.{HasEdges, rows_of, with_edge}
use Rattle.static_calls.proofs.Edges.{no-edges, edges-more, lent-whole, within}
use Rattle.static_calls.proofs.graph.Graph.new.Goals as goal

pub loop-from-init : goal.loop-from-init
loop-from-init c = record { size = c.in_ok-rows.ensures.size; edges = no-edges c.in_ok-rows.rows.items c.in_ok-rows.ensures.none }

pub loop-from-preserved : goal.loop-from-preserved
loop-from-preserved c =
    let edges = c.args.edges.now in
    let i = c.loop-from.from-index in
    let old = c.loop-from.rows.items in
    let new = c.add.new.rows in
    let whole : take c.loop-from.rows.len (new ++ drop (length new) old) ≡ new = lent-whole c.loop-from.rows.len old new (omega arith) in
    let grown : rows_of new ≡ with_edge (rows_of old) (get_or edges i (0, 0)).0 (get_or edges i (0, 0)).1 =
    c.in_ok-add.ensures ∙ ap (λ rows. with_edge (rows_of rows) (get_or edges i (0, 0)).0 (get_or edges i (0, 0)).1) c.deref_mut.ensures.value in
    let node : (get_or edges i (0, 0)).0 < length (rows_of old) = rw (length-map) (omega (arith, (c.requires i (0, 0) (omega arith)).0)) in
    record {
      size = ap length whole ∙ (omega arith);
      edges = subst (λ rows. HasEdges (rows_of rows) (take (i + 1) edges)) (sym whole) (subst (λ g. HasEdges g (take (i + 1) edges)) (sym grown) (edges-more (rows_of old) edges i (0, 0) (omega arith) node c.loop-from.invariant.edges));
    }

pub invariant_of-result : goal.invariant_of-result
invariant_of-result c a b e =
    let edges = c.args.edges.now in
    let rows = rows_of c.loop-from.rows.items in
    let has : HasEdges rows edges = subst (HasEdges rows) (take_all c.loop-from.from-index edges (omega arith)) c.loop-from.invariant.edges in
    let node : b < c.args.size = within rows edges c.args.size c.requires has a b e in
    omega arith

pub returns-clause-edges : goal.returns-clause-edges
returns-clause-edges c = subst (HasEdges (rows_of c.loop-from.rows.items)) (take_all c.loop-from.from-index c.args.edges.now (omega arith)) c.loop-from.invariant.edges
