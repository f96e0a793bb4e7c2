-- Small programs that are well formed, and small programs that are not.
use Rattle.std.proofs.Common.{◌≡◌, ◌<◌, ℕ, zero, suc, [], ◌∷◌, Some, None, arith, refl, ap, sym, subst, ◌∙◌, true, false}
use Rattle.std.specs.Prelude.{All, Contains, Bool, codes, slice_get, is_some, unwrap_or}
use Rattle.std.proofs.lemmas.List.Elements.{All-nil}
use Rattle.syntax_tree.specs.Plain.{Name, Monitor, Process, Declaration, constant, device, event, routine, monitor, process, Program}
use Rattle.static_declarations.specs.declared.sort.Sort.TheVariants as sort_is
use Rattle.source_semantics.specs.Run.{Found, of_monitor, routine_named}
use Rattle.source_semantics.specs.Nesting.{Levels}
use Rattle.source_semantics.specs.Names.{processes, monitors}
use Rattle.source_semantics_law.specs.Example.{one_put, handled_range, signalled_wait}
use Rattle.examples_law.specs.Examples.{put_inwards, undeclared, endless, circle, circular, due_in, hurrying}
use Rattle.static_semantics.specs.Here.{in_process}
use Rattle.static_semantics.specs.Statements.{AllFit}
use Rattle.static_semantics.specs.WellFormed.{IsWellFormed, ProcessFits, RoutineFits, MonitorFits, VarFits, IsHandled}

all_one : {X : Type 0} (P : X → Type 0) (x : X) → P x → All P (x ∷ [])
all_one P x is zero y below = is
all_one P x is (suc k) y below = absurd (omega arith)

all_two : {X : Type 0} (P : X → Type 0) (x y : X) → P x → P y → All P (x ∷ y ∷ [])
all_two P x y first second zero z below = first
all_two P x y first second (suc zero) z below = second
all_two P x y first second (suc (suc k)) z below = absurd (omega arith)

-- what holds of the entries of the one monitor
of_one : (P : ℕ → Monitor → Type 0) (m : Monitor) → P 0 m → (k : ℕ) (n : Monitor) → slice_get (m ∷ []) k ≡ Some n → P k n
of_one P m is zero n found = subst (P 0) (ap (λ o. unwrap_or o m) found) is
of_one P m is (suc k) n found = let b : false ≡ true = ap is_some found in absurd cc

no_levels : (g : Program) (p : Process) → ((f : Name) (r : Found) → routine_named g p f ≡ Some r → ⊥) → (level : Name → ℕ) × Levels g p level
no_levels g p none = (λ f. 0, record { body = λ f r found. absurd (none f r found); answers = λ f r found. absurd (none f r found); few = λ f r found. absurd (none f r found) })

is_none_found : (f : Name) (r : Found) → None ≡ Some r → ⊥
is_none_found f r e = let b : false ≡ true = ap is_some e in absurd cc

abbrev is_event : Declaration → Bool
is_event (constant n c) = false
is_event (device n is_out) = false
is_event (event n) = true
is_event (routine r) = false
is_event (monitor m) = false
is_event (process p) = false

no_event_in_two : (d1 d2 : Declaration) (e : Name) → Contains (d1 ∷ d2 ∷ []) (event e) → is_event d1 ≡ false → is_event d2 ≡ false → ⊥
no_event_in_two d1 d2 e (zero, below, is) first second = let b : false ≡ true = sym first ∙ ap is_event is in absurd cc
no_event_in_two d1 d2 e (suc zero, below, is) first second = let b : false ≡ true = sym second ∙ ap is_event is in absurd cc
no_event_in_two d1 d2 e (suc (suc k), below, is) first second = absurd (omega arith)

pub one_put_fits : IsWellFormed one_put
one_put_fits = record {
  constants_fit = tt;
  processes_fit = all_one (ProcessFits one_put) _ (record {
    activation = (record { constant = record { known_name = tt; word = refl }; limits = refl }, tt, tt);
    vars = All-nil _;
    body = ((refl, (0, omega arith, refl), (refl, omega arith)), tt);
    handler = tt;
    own = All-nil _;
    shared = All-nil _;
    entries = λ k m is. let b : false ≡ true = ap is_some is in absurd cc;
    levels = no_levels _ _ is_none_found;
  });
  monitors_fit = All-nil _;
  events_fit = λ e is. absurd (no_event_in_two _ _ e is refl refl);
  counts_fit = record {
    one_process = omega arith;
    few_processes = omega arith;
    few_monitors = omega arith;
    few_devices = omega arith;
    few_events = omega arith;
    few_conditions = omega arith;
    few_routines = omega arith;
    few_words = omega arith;
  };
}

-- the body of the one process, which stands behind a declaration
body_of : (g : Program) (p : Process) → processes g ≡ p ∷ [] → IsWellFormed g → AllFit (in_process g p) p.body
body_of g p is fits = (subst (All (ProcessFits g)) is fits.processes_fit 0 p (omega arith)).body

abbrev way_of : Declaration → Bool
way_of (device n is_out) = is_out
way_of (constant n c) = false
way_of (event n) = false
way_of (routine r) = false
way_of (monitor m) = false
way_of (process p) = false

no_out_in_two : (d1 d2 : Declaration) (n : Name) → Contains (d1 ∷ d2 ∷ []) (device n true) → way_of d1 ≡ false → way_of d2 ≡ false → ⊥
no_out_in_two d1 d2 n (zero, below, is) first second = let b : false ≡ true = sym first ∙ ap way_of is in absurd cc
no_out_in_two d1 d2 n (suc zero, below, is) first second = let b : false ≡ true = sym second ∙ ap way_of is in absurd cc
no_out_in_two d1 d2 n (suc (suc k), below, is) first second = absurd (omega arith)

pub put_inwards_does_not : IsWellFormed put_inwards → ⊥
put_inwards_does_not fits = no_out_in_two _ _ _ (body_of put_inwards _ refl fits).0.1 refl refl

pub undeclared_does_not : IsWellFormed undeclared → ⊥
undeclared_does_not fits = let b : false ≡ true = ap is_some (body_of undeclared _ refl fits).0.2 in absurd cc

pub endless_does_not : IsWellFormed endless → ⊥
endless_does_not fits = let b : false ≡ true = (body_of endless _ refl fits).0.0.ends in absurd cc

pub handled_range_fits : IsWellFormed handled_range
handled_range_fits = record {
  constants_fit = tt;
  processes_fit = all_one (ProcessFits handled_range) _ (record {
    activation = (record { constant = record { known_name = tt; word = refl }; limits = refl }, tt, tt);
    vars = all_one (VarFits handled_range) _ (record { low_constant = record { known_name = tt; word = refl }; high_constant = record { known_name = tt; word = refl }; order = refl });
    body = ((sort_is.Number, (refl, refl), (refl, omega arith)), tt);
    handler = record {
      numbers = all_one (IsHandled handled_range) _ (record { constant = record { known_name = tt; word = refl }; limits = refl });
      once = λ j k c d below before. absurd (omega arith);
      body = ((refl, (0, omega arith, refl), (refl, omega arith)), tt);
    };
    own = All-nil _;
    shared = All-nil _;
    entries = λ k m is. let b : false ≡ true = ap is_some is in absurd cc;
    levels = no_levels _ _ is_none_found;
  });
  monitors_fit = All-nil _;
  events_fit = λ e is. absurd (no_event_in_two _ _ e is refl refl);
  counts_fit = record {
    one_process = omega arith;
    few_processes = omega arith;
    few_monitors = omega arith;
    few_devices = omega arith;
    few_events = omega arith;
    few_conditions = omega arith;
    few_routines = omega arith;
    few_words = omega arith;
  };
}

no_event_in_four : (d1 d2 d3 d4 : Declaration) (e : Name) → Contains (d1 ∷ d2 ∷ d3 ∷ d4 ∷ []) (event e) → is_event d1 ≡ false → is_event d2 ≡ false → is_event d3 ≡ false → is_event d4 ≡ false → ⊥
no_event_in_four d1 d2 d3 d4 e (zero, below, is) first second third fourth = let b : false ≡ true = sym first ∙ ap is_event is in absurd cc
no_event_in_four d1 d2 d3 d4 e (suc zero, below, is) first second third fourth = let b : false ≡ true = sym second ∙ ap is_event is in absurd cc
no_event_in_four d1 d2 d3 d4 e (suc (suc zero), below, is) first second third fourth = let b : false ≡ true = sym third ∙ ap is_event is in absurd cc
no_event_in_four d1 d2 d3 d4 e (suc (suc (suc zero)), below, is) first second third fourth = let b : false ≡ true = sym fourth ∙ ap is_event is in absurd cc
no_event_in_four d1 d2 d3 d4 e (suc (suc (suc (suc k))), below, is) first second third fourth = absurd (omega arith)

-- the entries of the monitor in which a process waits and another signals
waiting_entries : (p : Process) (k : ℕ) (m : Monitor) → slice_get (monitors signalled_wait) k ≡ Some m → All (RoutineFits signalled_wait p (of_monitor k)) m.entries
waiting_entries p = of_one (λ k m. All (RoutineFits signalled_wait p (of_monitor k)) m.entries) _
    (all_two (RoutineFits signalled_wait p (of_monitor 0)) _ _
    (record {
      params = All-nil _;
      vars = All-nil _;
      body = (((0, omega arith, refl), record { constant = record { known_name = tt; word = refl }; limits = refl }, record { constant = record { known_name = tt; word = refl }; limits = refl }), tt);
      answers = tt;
    })
    (record { params = All-nil _; vars = All-nil _; body = ((0, omega arith, refl), tt); answers = tt }))

pub signalled_wait_fits : IsWellFormed signalled_wait
signalled_wait_fits = record {
  constants_fit = tt;
  processes_fit = all_two (ProcessFits signalled_wait) _ _
      (record {
        activation = (record { constant = record { known_name = tt; word = refl }; limits = refl }, tt, tt);
        vars = All-nil _;
        body = ((refl, refl, tt), tt);
        handler = record {
          numbers = all_one (IsHandled signalled_wait) _ (record { constant = record { known_name = tt; word = refl }; limits = refl });
          once = λ j k c d below before. absurd (omega arith);
          body = ((refl, (0, omega arith, refl), (refl, omega arith)), tt);
        };
        own = All-nil _;
        shared = All-nil _;
        entries = waiting_entries _;
        levels = no_levels _ _ is_none_found;
      })
      (record {
        activation = (record { constant = record { known_name = tt; word = refl }; limits = refl }, tt, record { constant = record { known_name = tt; word = refl }; limits = refl });
        vars = All-nil _;
        body = ((refl, refl, tt), tt);
        handler = tt;
        own = All-nil _;
        shared = All-nil _;
        entries = waiting_entries _;
        levels = no_levels _ _ is_none_found;
      });
  monitors_fit = all_one (MonitorFits signalled_wait) _ (All-nil _);
  events_fit = λ e is. absurd (no_event_in_four _ _ _ _ e is refl refl refl refl);
  counts_fit = record {
    one_process = omega arith;
    few_processes = omega arith;
    few_monitors = omega arith;
    few_devices = omega arith;
    few_events = omega arith;
    few_conditions = omega arith;
    few_routines = omega arith;
    few_words = omega arith;
  };
}

-- the levels of the routines of a process, of which one calls itself
pub circular_does_not : IsWellFormed circular → ⊥
circular_does_not fits =
    let levels = (fits.processes_fit 0 (circle) (omega arith)).levels in
    let below : levels.0 (codes "f") < levels.0 (codes "f") = (levels.1.body (codes "f") _ refl).0.0 in
    omega (arith, below)

-- ---- deadlines

pub early_deadline_fits : IsWellFormed (hurrying 50)
early_deadline_fits = record {
  constants_fit = tt;
  processes_fit = all_one (ProcessFits (hurrying 50)) _ (record {
    activation = (record { constant = record { known_name = tt; word = refl }; limits = refl }, (record { known_name = tt; word = refl }, refl, refl), tt);
    vars = All-nil _;
    body = ((refl, (0, omega arith, refl), (refl, omega arith)), tt);
    handler = tt;
    own = All-nil _;
    shared = All-nil _;
    entries = λ k m is. let b : false ≡ true = ap is_some is in absurd cc;
    levels = no_levels _ _ is_none_found;
  });
  monitors_fit = All-nil _;
  events_fit = λ e is. absurd (no_event_in_two _ _ e is refl refl);
  counts_fit = record {
    one_process = omega arith;
    few_processes = omega arith;
    few_monitors = omega arith;
    few_devices = omega arith;
    few_events = omega arith;
    few_conditions = omega arith;
    few_routines = omega arith;
    few_words = omega arith;
  };
}

pub late_deadline_does_not : IsWellFormed (hurrying 101) → ⊥
late_deadline_does_not fits = let b : false ≡ true = (fits.processes_fit 0 (due_in 101) (omega arith)).activation.1.2 in absurd cc

pub hasty_deadline_does_not : IsWellFormed (hurrying 9) → ⊥
hasty_deadline_does_not fits = let b : false ≡ true = (fits.processes_fit 0 (due_in 9) (omega arith)).activation.1.1 in absurd cc
