use Rattle.std.proofs.Common.{◌<◌, ℕ, List, [], length, sym, ◌∙◌, subst}
use Rattle.std.specs.Prelude.{All}
use Rattle.static_calls.specs.Tables.{seen_routines, waiters}
use Rattle.static_calls.proofs.CallEdges.{waiters-within}
use Rattle.static_calls.proofs.rules_calls_graph.coming_to_wait.Goals as goal

pub reaching-requires : goal.reaching-requires
reaching-requires c =
    subst (λ (l : List ℕ). All (λ n. n < length c.args.graph.now) l) (sym (c.as_slice.ensures.value ∙ c.in_ok-waiters.ensures))
    (subst (λ size. All (λ n. n < size) (waiters c.args.numbers.now.keys (seen_routines c.args.routines.now) [])) (sym c.requires) (waiters-within c.args.numbers.now.keys (seen_routines c.args.routines.now)))
