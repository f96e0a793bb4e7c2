-- The rules that are tried are those for declarations, in the order of their own lists.
use Rattle.std.proofs.Common.{◌≡◌, ℕ, List, [], ◌∷◌, map, Option, refl}
use Rattle.syntax_tree.specs.Plain.{Name}
use Rattle.syntax_tree.specs.Placed.{Constant, Stmts, loop, wait, except, Process, Prog}
use Rattle.syntax_tree.specs.declared.place.Place.{Place}
use Rattle.static_rule.specs.Parts.{Rule}
use Rattle.static_declarations.specs.Values.{value}
use Rattle.static_declarations.specs.declared.home.Where.{Where}
use Rattle.static_declarations.specs.Parts.{statement}
use Rattle.static_types.specs.Numbers.{crossed_loop, endless_loop, long_loop, bad_number, bad_limit}
use Rattle.static_numbers.specs.Types.{Bounds}
use Rattle.static_numbers.specs.Processes.{Handled}
use Rattle.static_numbers.specs.Rules.{bounds_rules, process_rules, event_rules, handler_rules, count_rules}
use Rattle.message_rules.specs.Findings.{Finding, part_findings, bounds_findings, process_findings, event_findings, handled_findings, count_findings}

abbrev tried : List Finding → List (ℕ × Option Place)
tried fs = map (λ f. (f.number, f.fails)) fs

abbrev rules_on : {X : Type 0} → List (Rule X) → X → List (ℕ × Option Place)
rules_on rs x = map (λ r. (r.number, r.fails x)) rs

pub of_bounds : (g : Prog Place) (b : Bounds) → tried (bounds_findings (value g) b) ≡ rules_on (bounds_rules g) b
of_bounds g b = refl

pub of_processes : (g : Prog Place) (p : Process Place) → tried (process_findings (value g) p) ≡ rules_on (process_rules g) p
of_processes g p = refl

pub of_events : (g : Prog Place) (e : Place) → tried (event_findings g e) ≡ rules_on (event_rules g) e
of_events g e = refl

pub of_handlers : (g : Prog Place) (h : Handled) → tried (handled_findings (value g) h) ≡ rules_on (handler_rules g) h
of_handlers g h = refl

pub of_counts : (g : Prog Place) → tried (count_findings g) ≡ rules_on (count_rules g) g
of_counts g = refl

-- ---- the numbers in statements: all other statements, and results, have no finding

pub of_loops : (g : Prog Place) (here : Where) (p : Place) (name : Name) (q : Place) (low high : Constant Place) (a : Stmts Place)
    → let s = statement here (loop p name q low high a) in tried (part_findings (value g) s) ≡ ((32, crossed_loop (value g) s) ∷ (32, endless_loop (value g) s) ∷ (33, long_loop (value g) s) ∷ [])
of_loops g here p name q low high a = refl

pub of_waits : (g : Prog Place) (here : Where) (p : Place) (cond : Name) (q : Place) (limit number : Constant Place)
    → let s = statement here (wait p cond q limit number) in tried (part_findings (value g) s) ≡ ((39, bad_number (value g) s) ∷ (45, bad_limit (value g) s) ∷ [])
of_waits g here p cond q limit number = refl

pub of_excepts : (g : Prog Place) (here : Where) (p : Place) (number : Constant Place)
    → let s = statement here (except p number) in tried (part_findings (value g) s) ≡ ((39, bad_number (value g) s) ∷ [])
of_excepts g here p number = refl
