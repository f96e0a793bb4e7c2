-- What the rules for numbers find wrong with a program, and the sentence that is said of it.
use Rattle.std.specs.Prelude.{ℕ, ℤ, pos, ◌+ℤ◌, ◌-ℤ◌, int_le, int_lt, Bool, ◌&&◌, ◌==◌, List, [], ◌∷◌, ◌++◌, Option, Some, None, find, option_map, unwrap_or, if◌then◌else◌}
use Rattle.std.specs.List.{flat_map}
use Rattle.base.specs.Words.{same}
use Rattle.syntax_tree.specs.Placed.{Constant, Stmt, loop, wait, except, Activation, periodic, at_event, Process, Prog}
use Rattle.syntax_tree.specs.declared.place.Place.{Place}
use Rattle.syntax_tree.specs.Parts.{processes, events, monitors, devices}
use Rattle.static_rule.specs.declared.violation.Violation.{Violation}
use Rattle.static_names.specs.Occurrences.{names, declared_at}
use Rattle.static_declarations.specs.Values.{Worth, value, constant_place, out_of}
use Rattle.static_declarations.specs.Parts.{Part, statement, answer, parts}
use Rattle.static_numbers.specs.Types.{Bounds, decls_bounds, crossed, too_long}
use Rattle.static_numbers.specs.Processes.{frame_of, deadline_of, bad_frame, bad_deadline, bad_first, is_at, users, misused_event, Handled, all_handled, bad_handled, repeated}
use Rattle.static_numbers.specs.Counts.{process_places, monitor_places, conditions, routine_places, one_too_many, no_process, words, too_many_words}
use Rattle.static_numbers.specs.Seen.{held}
use Rattle.message_rules.specs.Sentences.{sentence}
use Rattle.message_rules.specs.declared.fault.Counted.TheVariants as counted_is
use Rattle.message_rules.specs.declared.fault.Quantity.TheVariants as quantity_is
use Rattle.message_rules.specs.declared.fault.Fault.{Fault}
use Rattle.message_rules.specs.declared.fault.Fault.TheVariants as fault_is

-- a rule tried on a part of a program: its number, the place where it fails, if it does, and what
-- is wrong then
pub record Finding : Type 0 where
  pub number : ℕ
  pub fails : Option Place
  pub wrong : Fault

-- ---- the rules, in the order of their own lists

-- a loop at its place; it has one turn more than its bounds are apart
abbrev pub loop_findings : Worth → Place → (low high : Constant Place) → List Finding
loop_findings worth place low high =
    record {
      number = 32;
      fails = (if int_lt (worth high) (worth low) then Some (constant_place low) else None);
      wrong = fault_is.CrossedBounds (worth low) (worth high);
    }
    ∷ record {
      number = 32;
      fails = (if same (worth high) (pos 2147483647) then Some (constant_place high) else None);
      wrong = fault_is.EndlessLoop;
    }
    ∷ record {
      number = 33;
      fails = (if int_le (worth low +ℤ pos 1000000) (worth high) then Some place else None);
      wrong = fault_is.Number quantity_is.Turns ((worth high -ℤ worth low) +ℤ pos 1);
    }
    ∷ []

-- an exception that is raised
abbrev pub raised_findings : Worth → (number : Constant Place) → List Finding
raised_findings worth number = record { number = 39; fails = out_of worth 10 999 number; wrong = fault_is.Number quantity_is.RaisedNumber (worth number) } ∷ []

-- a wait, which raises an exception at its limit
abbrev pub wait_findings : Worth → (limit number : Constant Place) → List Finding
wait_findings worth limit number =
    raised_findings worth number
    ++ record { number = 45; fails = out_of worth 1 1000000000 limit; wrong = fault_is.Number quantity_is.WaitLimit (worth limit) }
    ∷ []

-- a statement, those in it aside
abbrev pub stmt_findings : Worth → Stmt Place → List Finding
stmt_findings worth (loop p name q low high a) = loop_findings worth p low high
stmt_findings worth (wait p cond q limit number) = wait_findings worth limit number
stmt_findings worth (except p number) = raised_findings worth number
stmt_findings worth _ = []

abbrev pub part_findings : Worth → Part → List Finding
part_findings worth (statement here s) = stmt_findings worth s
part_findings worth (answer name kind e) = []

-- two bounds; an array has one element more than its bounds are apart
abbrev pub bounds_findings : Worth → Bounds → List Finding
bounds_findings worth b =
    record { number = 32; fails = crossed worth b; wrong = fault_is.CrossedBounds (worth b.low) (worth b.high) }
    ∷ record { number = 44; fails = too_long worth b; wrong = fault_is.Number quantity_is.Elements ((worth b.high -ℤ worth b.low) +ℤ pos 1) }
    ∷ []

abbrev pub first_of : Activation Place → Option (Constant Place)
first_of (periodic frame deadline first) = first
first_of (at_event name q frame deadline) = None

-- the ticks of a deadline or a first activation, 0 where there is none
abbrev pub ticks : Worth → Option (Constant Place) → ℤ
ticks worth c = unwrap_or (option_map worth c) (pos 0)

-- the frame, the deadline and the first activation of a process
abbrev pub process_findings : Worth → Process Place → List Finding
process_findings worth p =
    record { number = 36; fails = bad_frame worth p; wrong = fault_is.Number quantity_is.Frame (worth (frame_of p.activation)) }
    ∷ record { number = 36; fails = bad_deadline worth p; wrong = fault_is.Deadline (ticks worth (deadline_of p.activation)) (worth (frame_of p.activation)) }
    ∷ record { number = 36; fails = bad_first worth p; wrong = fault_is.Number quantity_is.FirstActivation (ticks worth (first_of p.activation)) }
    ∷ []

-- an event, by the place of its name
abbrev pub event_findings : Prog Place → Place → List Finding
event_findings g e =
    record {
      number = 37;
      fails = misused_event (declared_at (names g)) (processes g.decls) e;
      wrong = fault_is.EventUse e (users (declared_at (names g)) e (processes g.decls));
    }
    ∷ []

-- a number of a handler
abbrev pub handled_findings : Worth → Handled → List Finding
handled_findings worth h =
    record { number = 35; fails = repeated worth h; wrong = fault_is.Number quantity_is.ListedNumber (worth h.number) }
    ∷ record { number = 39; fails = bad_handled worth h; wrong = fault_is.Number quantity_is.HandlerNumber (worth h.number) }
    ∷ []

-- how much there is; the sum of words stays at the greatest number of 64 bits
abbrev pub count_findings : Prog Place → List Finding
count_findings g =
    record { number = 40; fails = no_process g; wrong = fault_is.NoProcess }
    ∷ record { number = 40; fails = one_too_many 64 (process_places g.decls); wrong = fault_is.OneTooMany counted_is.Process }
    ∷ record { number = 40; fails = one_too_many 64 (monitor_places g.decls); wrong = fault_is.OneTooMany counted_is.Monitor }
    ∷ record { number = 40; fails = one_too_many 64 (devices g.decls); wrong = fault_is.OneTooMany counted_is.Device }
    ∷ record { number = 40; fails = one_too_many 64 (events g.decls); wrong = fault_is.OneTooMany counted_is.Event }
    ∷ record { number = 41; fails = one_too_many 256 (conditions (monitors g.decls)); wrong = fault_is.OneTooMany counted_is.Condition }
    ∷ record { number = 42; fails = one_too_many 512 (routine_places g.decls); wrong = fault_is.OneTooMany counted_is.Routine }
    ∷ record { number = 43; fails = too_many_words (value g) g; wrong = fault_is.VariableWords (held (words (value g) g.decls)) }
    ∷ []

-- all rules, each tried on all parts that it is for
abbrev pub findings : Prog Place → List Finding
findings g =
    flat_map (part_findings (value g)) (parts g)
    ++ (flat_map (bounds_findings (value g)) (decls_bounds g.decls [])
    ++ (flat_map (process_findings (value g)) (processes g.decls)
    ++ (flat_map (event_findings g) (events g.decls)
    ++ (flat_map (handled_findings (value g)) (all_handled (processes g.decls))
    ++ count_findings g))))

-- ---- what is said

-- the rule with that number fails at that place
abbrev pub is_asked : Violation → Finding → Bool
is_asked broken f = f.number == broken.number && is_at broken.place f.fails

-- what is wrong by the first of them that fails so
abbrev pub first_wrong : Violation → List Finding → Option Fault
first_wrong broken fs = option_map (λ f. f.wrong) (find (is_asked broken) fs)

-- what is said of the rule with that number where it fails at that place; nothing where it does not
unfoldable pub rule_sentence : Prog Place → (number : ℕ) → Place → Option (List ℕ)
rule_sentence g number place = option_map (sentence g.decls) (first_wrong (record { number = number; place = place }) (findings g))
