-- Parts of a program as the code lists them: its processes, the queues of its conditions, and the
-- places of ranks.
use Rattle.std.specs.Prelude.{ℕ, List, [], ◌∷◌, ◌++◌, map, filter_map, nat_eq}
use Rattle.std.specs.List.{position_from}
use Rattle.std.specs.Borrow.{Bor}
use Rattle.syntax_tree.specs.Plain.{Member, variable_member, condition_member, Monitor, Process}
use Rattle.syntax_tree.specs.Placed.{placed_process, plain_process}
use Rattle.syntax_tree.specs.declared.decl.Process as code_process

abbrev pub seen_processes : List (Bor code_process.Process) → List Process
seen_processes ps = map (λ p. plain_process (placed_process p.now)) ps

-- an empty queue for each condition among the members of a monitor
abbrev pub member_queues : List Member → List (List ℕ)
member_queues [] = []
member_queues (variable_member v ∷ ms) = member_queues ms
member_queues (condition_member c ∷ ms) = [] ∷ member_queues ms

-- an empty queue for each condition of the monitors
abbrev pub monitor_queues : List Monitor → List (List ℕ)
monitor_queues [] = []
monitor_queues (m ∷ ms) = member_queues m.members ++ monitor_queues ms

-- the first places of these of the ranks, as far as they stand in the list
abbrev pub places_of : (ranks : List ℕ) → List ℕ → List ℕ
places_of ranks rs = filter_map (λ r. position_from (λ x. nat_eq x r) 0 ranks) rs
