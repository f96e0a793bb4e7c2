use Rattle.std.proofs.Common.{ℕ, List, sym, subst}
use Rattle.std.specs.Prelude.{Contains}
use Rattle.static_calls.proofs.graph.Graph.turned.Goals as goal

pub returns-clause-edges : goal.returns-clause-edges
returns-clause-edges c a b =
    let built = c.in_ok-turned.ensures.edges b a in
    let listed = c.in_ok-edges.ensures.turned a b in
    let same = c.as_slice.ensures.value in
    ((λ e. listed.0 (subst (λ (es : List (ℕ × ℕ)). Contains es (b, a)) same (built.0 e))), λ e. built.1 (subst (λ (es : List (ℕ × ℕ)). Contains es (b, a)) (sym same) (listed.1 e)))
