-- The rules for declarations, by number.
use Rattle.std.specs.Prelude.{ℕ, List, [], ◌∷◌}
use Rattle.syntax_tree.specs.Placed.{Process, Prog}
use Rattle.syntax_tree.specs.declared.place.Place.{Place}
use Rattle.static_rule.specs.First.{Either}
use Rattle.static_rule.specs.Parts.{Rule, FailsAmong}
use Rattle.static_names.specs.Occurrences.{names, declared_at}
use Rattle.static_declarations.specs.Values.{value}
use Rattle.static_numbers.specs.Types.{Bounds, decls_bounds, crossed, too_long}
use Rattle.syntax_tree.specs.Parts.{processes, events, monitors, devices}
use Rattle.static_numbers.specs.Processes.{bad_frame, bad_deadline, bad_first, misused_event, Handled, all_handled, bad_handled, repeated}
use Rattle.static_numbers.specs.Counts.{process_places, monitor_places, conditions, routine_places, one_too_many, no_process, too_many_words}

abbrev pub bounds_rules : Prog Place → List (Rule Bounds)
bounds_rules g =
    record { number = 32; fails = crossed (value g) }
    ∷ record { number = 44; fails = too_long (value g) }
    ∷ []

abbrev pub process_rules : Prog Place → List (Rule (Process Place))
process_rules g =
    record { number = 36; fails = bad_frame (value g) }
    ∷ record { number = 36; fails = bad_deadline (value g) }
    ∷ record { number = 36; fails = bad_first (value g) }
    ∷ []

abbrev pub event_rules : Prog Place → List (Rule Place)
event_rules g = record { number = 37; fails = misused_event (declared_at (names g)) (processes g.decls) } ∷ []

abbrev pub handler_rules : Prog Place → List (Rule Handled)
handler_rules g =
    record { number = 35; fails = repeated (value g) }
    ∷ record { number = 39; fails = bad_handled (value g) }
    ∷ []

abbrev pub count_rules : Prog Place → List (Rule (Prog Place))
count_rules g =
    record { number = 40; fails = no_process }
    ∷ record { number = 40; fails = λ h. one_too_many 64 (process_places h.decls) }
    ∷ record { number = 40; fails = λ h. one_too_many 64 (monitor_places h.decls) }
    ∷ record { number = 40; fails = λ h. one_too_many 64 (devices h.decls) }
    ∷ record { number = 40; fails = λ h. one_too_many 64 (events h.decls) }
    ∷ record { number = 41; fails = λ h. one_too_many 256 (conditions (monitors h.decls)) }
    ∷ record { number = 42; fails = λ h. one_too_many 512 (routine_places h.decls) }
    ∷ record { number = 43; fails = too_many_words (value g) }
    ∷ []

-- a rule for declarations fails at a place of the program
abbrev pub LimitFails : Prog Place → ℕ → Place → Type 0
LimitFails g =
    Either (FailsAmong (bounds_rules g) (decls_bounds g.decls []))
    (Either (FailsAmong (process_rules g) (processes g.decls))
    (Either (FailsAmong (event_rules g) (events g.decls))
    (Either (FailsAmong (handler_rules g) (all_handled (processes g.decls)))
    (FailsAmong (count_rules g) (g ∷ [])))))
