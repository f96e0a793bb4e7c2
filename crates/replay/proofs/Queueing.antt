-- The queues of all monitors are as many empty ones as there are conditions.
use Rattle.std.specs.Prelude.{◌≡◌, ℕ, ◌+◌, List, [], ◌∷◌, ◌++◌, length, replicate, filter_map}
use Rattle.std.proofs.Common.{refl, sym, ◌∙◌, ap}
use Rattle.std.proofs.lemmas.List.{replicate-append-replicate}
use Rattle.std.proofs.lemmas.List.Sums.{sum_by-cons}
use Rattle.syntax_tree.specs.Plain.{Member, variable_member, condition_member, Monitor}
use Rattle.source_semantics.specs.Names.{condition_count, condition_in, conditions_of}
use Rattle.replay.specs.Parts.{member_queues, monitor_queues}

none_in : (ms : List Member) → member_queues ms ≡ replicate (length (filter_map condition_in ms)) []
none_in [] = refl
none_in (variable_member v ∷ ms) = none_in ms
none_in (condition_member c ∷ ms) = ap (λ qs. [] ∷ qs) (none_in ms)

pub queues_are : (ms : List Monitor) → monitor_queues ms ≡ replicate (condition_count ms) []
queues_are [] = refl
queues_are (m ∷ ms) =
    let count : condition_count (m ∷ ms) ≡ length (conditions_of m) + condition_count ms = sum_by-cons (λ k. length (conditions_of k)) m ms in
    let none : List ℕ = [] in
    ap (λ qs. qs ++ monitor_queues ms) (none_in m.members)
    ∙ (ap (λ qs. replicate (length (conditions_of m)) none ++ qs) (queues_are ms)
    ∙ (replicate-append-replicate (length (conditions_of m)) (condition_count ms) none
    ∙ ap (λ n. replicate n none) (sym count)))
