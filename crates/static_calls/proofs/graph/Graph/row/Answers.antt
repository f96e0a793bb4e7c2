use Rattle.std.proofs.Common.{◌≡◌, ◌<◌, ℕ, [], List, length, get_or, ap, sym, ◌∙◌, subst, arith}
use Rattle.std.specs.Prelude.{All}
use Rattle.std.specs.declared.alloc.Global.{Global}
use Rattle.std.specs.declared.vec.Vec.{Vec}
use Rattle.std.proofs.lemmas.List.{get_or-map, length-map}
use Rattle.static_calls.specs.Graph.{Graph, rows_of}
use Rattle.static_calls.proofs.Edges.{row-within}
use Rattle.static_calls.proofs.graph.Graph.row.Goals as goal

pub returns-in-Some-clause-within : goal.returns-in-Some-clause-within
returns-in-Some-clause-within c =
    let rows = c.self.inside.rows.items in
    let read = c.in-Some.ensures.lookup in
    let inside : c.args.node < length rows = omega (arith, read.3.0, c.deref.ensures.len, ap length c.deref.ensures.value) in
    let same : c.as_slice.result.now ≡ get_or (rows_of rows) c.args.node [] =
    c.as_slice.ensures.value
    ∙ ap (λ (r : Vec ℕ Global). r.items) (read.1 ∙ ap (λ (rs : List (Vec ℕ Global)). get_or rs c.args.node c.in-Some.row.now) c.deref.ensures.value)
    ∙ sym (get_or-map (λ (r : Vec ℕ Global). r.items) rows c.args.node c.in-Some.row.now [] inside) in
    let size : length rows ≡ length c.args.self.now = sym (length-map rows (λ (r : Vec ℕ Global). r.items)) ∙ ap (λ (g : Graph). length g) c.self.view_is in
    subst (λ r. All (λ to. to < length c.args.self.now) r) (sym same) (row-within (rows_of rows) c.args.node (length c.args.self.now) (λ a b e. let l = c.self.invariant a b e in omega arith))
