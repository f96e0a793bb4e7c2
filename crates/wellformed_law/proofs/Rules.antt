-- Where no rule fails among parts, each rule holds of each part.
use Rattle.std.proofs.Common.{◌≡◌, ℕ, zero, suc, List, [], ◌∷◌, Option, Some, None, ◌⊎◌, inl, inr, refl, subst}
use Rattle.std.specs.Prelude.{Contains, slice_get}
use Rattle.base.proofs.Members.{at_front, none_in, front_or_behind}
use Rattle.syntax_tree.specs.Placed.{Process, Prog}
use Rattle.syntax_tree.specs.declared.place.Place.{Place}
use Rattle.static_rule.specs.Parts.{Rule, FailsOf, FailsAmong}
use Rattle.static_names.specs.Occurrences.{names, declared_at}
use Rattle.static_declarations.specs.Values.{value}
use Rattle.static_numbers.specs.Rules.{LimitFails, bounds_rules, process_rules, event_rules, handler_rules, count_rules}
use Rattle.static_numbers.specs.Types.{Bounds, decls_bounds, crossed, too_long}
use Rattle.syntax_tree.specs.Parts.{processes, events, monitors, devices}
use Rattle.static_numbers.specs.Processes.{bad_frame, bad_deadline, bad_first, misused_event, Handled, all_handled, bad_handled, repeated}
use Rattle.static_numbers.specs.Counts.{process_places, monitor_places, conditions, routine_places, one_too_many, no_process, too_many_words}

-- the rule holds of the part
holds : {X : Type 0} (r : Rule X) (rs : List (Rule X)) (x : X) → ((n : ℕ) (p : Place) → ¬ FailsOf (r ∷ rs) x n p) → r.fails x ≡ None
holds r rs x keeps = by (r.fails x) refl
  where
    by : (o : Option Place) → r.fails x ≡ o → o ≡ None
    by None e = refl
    by (Some p) e = absurd (keeps r.number p (inl (refl, e)))

abbrev Holds : {X : Type 0} → X → Option (Rule X) → Type 0
Holds x None = Unit {0}
Holds x (Some r) = r.fails x ≡ None

-- so does each rule, by its place in the list
hold : {X : Type 0} (rs : List (Rule X)) (x : X) → ((n : ℕ) (p : Place) → ¬ FailsOf rs x n p) → (k : ℕ) → Holds x (slice_get rs k)
hold [] x keeps k = tt
hold (r ∷ rs) x keeps zero = holds r rs x keeps
hold (r ∷ rs) x keeps (suc k) = hold rs x (λ n p f. keeps n p (inr f)) k

each_keeps : {X : Type 0} (rs : List (Rule X)) (xs : List X) → ((n : ℕ) (p : Place) → ¬ FailsAmong rs xs n p) → (x : X) → Contains xs x → (n : ℕ) (p : Place) → ¬ FailsOf rs x n p
each_keeps rs [] keeps x h n p = absurd (none_in x h)
each_keeps rs (y ∷ xs) keeps x h n p = by (each_keeps rs xs (λ m q f. keeps m q (inr f)) x) (front_or_behind y xs x h)
  where
    by : (Contains xs x → (m : ℕ) (q : Place) → ¬ FailsOf rs x m q) → (y ≡ x) ⊎ Contains xs x → ¬ FailsOf rs x n p
    by again (inl e) = subst (λ z. ¬ FailsOf rs z n p) e (λ f. keeps n p (inl f))
    by again (inr m) = again m n p

-- what the rules for declarations say
pub record Limits (g : Prog Place) : Type 0 where
  pub crossed_none : (b : Bounds) → Contains (decls_bounds g.decls []) b → crossed (value g) b ≡ None
  pub long_none : (b : Bounds) → Contains (decls_bounds g.decls []) b → too_long (value g) b ≡ None
  pub frames : (p : Process Place) → Contains (processes g.decls) p → bad_frame (value g) p ≡ None
  pub deadlines : (p : Process Place) → Contains (processes g.decls) p → bad_deadline (value g) p ≡ None
  pub firsts : (p : Process Place) → Contains (processes g.decls) p → bad_first (value g) p ≡ None
  pub used_once : (e : Place) → Contains (events g.decls) e → misused_event (declared_at (names g)) (processes g.decls) e ≡ None
  pub once : (h : Handled) → Contains (all_handled (processes g.decls)) h → repeated (value g) h ≡ None
  pub numbers : (h : Handled) → Contains (all_handled (processes g.decls)) h → bad_handled (value g) h ≡ None
  pub a_process : no_process g ≡ None
  pub few_processes : one_too_many 64 (process_places g.decls) ≡ None
  pub few_monitors : one_too_many 64 (monitor_places g.decls) ≡ None
  pub few_devices : one_too_many 64 (devices g.decls) ≡ None
  pub few_events : one_too_many 64 (events g.decls) ≡ None
  pub few_conditions : one_too_many 256 (conditions (monitors g.decls)) ≡ None
  pub few_routines : one_too_many 512 (routine_places g.decls) ≡ None
  pub few_words : too_many_words (value g) g ≡ None

pub limits_hold : (g : Prog Place) → ((number : ℕ) (place : Place) → ¬ LimitFails g number place) → Limits g
limits_hold g keeps = record {
  crossed_none = λ b h. hold (bounds_rules g) b (bound b h) 0;
  long_none = λ b h. hold (bounds_rules g) b (bound b h) 1;
  frames = λ p h. hold (process_rules g) p (of_process p h) 0;
  deadlines = λ p h. hold (process_rules g) p (of_process p h) 1;
  firsts = λ p h. hold (process_rules g) p (of_process p h) 2;
  used_once = λ e h. hold (event_rules g) e (each_keeps (event_rules g) (events g.decls) (λ n q f. keeps n q (inr (inr (inl f)))) e h) 0;
  once = λ e h. hold (handler_rules g) e (of_handled e h) 0;
  numbers = λ e h. hold (handler_rules g) e (of_handled e h) 1;
  a_process = hold (count_rules g) g counts 0;
  few_processes = hold (count_rules g) g counts 1;
  few_monitors = hold (count_rules g) g counts 2;
  few_devices = hold (count_rules g) g counts 3;
  few_events = hold (count_rules g) g counts 4;
  few_conditions = hold (count_rules g) g counts 5;
  few_routines = hold (count_rules g) g counts 6;
  few_words = hold (count_rules g) g counts 7;
}
  where
    bound : (b : Bounds) → Contains (decls_bounds g.decls []) b → (n : ℕ) (q : Place) → ¬ FailsOf (bounds_rules g) b n q
    bound = each_keeps (bounds_rules g) (decls_bounds g.decls []) (λ n q f. keeps n q (inl f))

    of_process : (p : Process Place) → Contains (processes g.decls) p → (n : ℕ) (q : Place) → ¬ FailsOf (process_rules g) p n q
    of_process = each_keeps (process_rules g) (processes g.decls) (λ n q f. keeps n q (inr (inl f)))

    of_handled : (h : Handled) → Contains (all_handled (processes g.decls)) h → (n : ℕ) (q : Place) → ¬ FailsOf (handler_rules g) h n q
    of_handled = each_keeps (handler_rules g) (all_handled (processes g.decls)) (λ n q f. keeps n q (inr (inr (inr (inl f)))))

    counts : (n : ℕ) (q : Place) → ¬ FailsOf (count_rules g) g n q
    counts = each_keeps (count_rules g) (g ∷ []) (λ n q f. keeps n q (inr (inr (inr (inr f))))) g (at_front g [])
