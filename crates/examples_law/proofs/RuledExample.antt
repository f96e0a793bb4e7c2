-- The example meets the premises.
use Rattle.std.proofs.Common.{◌≡◌, ℕ, zero, suc, [], ◌∷◌, Some, refl, ap, sym, subst}
use Rattle.std.specs.Prelude.{slice_get, unwrap_or}
use Rattle.std.proofs.lemmas.Option.{none-some}
use Rattle.syntax_tree.specs.Plain.{Routine, Monitor, Process}
use Rattle.source_semantics.specs.Names.{monitors, processes}
use Rattle.source_semantics_law.specs.Example.{signalled_wait}
use Rattle.machine_safety.specs.SmallImages.{waiter_and_signaller}
use Rattle.code_spec.specs.Numbering.{numbered, visit, number_of, routine_calls}
use Rattle.code_spec.specs.Compiled.{IsCodeOf}
use Rattle.examples_law.proofs.Small.{signalled_wait_fits}
use Rattle.codegen_law.specs.Kept.{AllFound}
use Rattle.codegen_law.specs.Ruled.{AllOfProgram, NamesApart}
use Rattle.examples_law.specs.RuledExample.{ExampleMeets}

code_is : (over : ℕ) → IsCodeOf signalled_wait (waiter_and_signaller over 31)
unfolding numbered visit number_of
code_is over = record {
  between = 9;
  routine_code = (
    5,
    record { kind = refl; owner = refl; params = refl; locals = refl; gives = refl; tree = refl },
    refl,
    record { inside = 1; enters = record { has = (refl, tt); end = refl }; behind = 3; body = (3, record { has = (refl, (refl, tt)); end = refl }, refl); rest = record { has = (refl, (refl, tt)); end = refl } },
    (
      9,
      record { kind = refl; owner = refl; params = refl; locals = refl; gives = refl; tree = refl },
      refl,
      record { inside = 6; enters = record { has = (refl, tt); end = refl }; behind = 7; body = (7, record { has = (refl, tt); end = refl }, refl); rest = record { has = (refl, (refl, tt)); end = refl } },
      refl,
    ),
  );
  process_code = (
    14,
    record {
      behind = 10;
      body = (10, record { has = (refl, tt); end = refl }, refl);
      end = refl;
      handler = (13, (13, record { has = (refl, (refl, tt)); end = refl }, refl), record { has = (refl, tt); end = refl }, refl, refl, refl);
      start = refl;
      locals = refl;
      words = refl;
      tree = refl;
      frame = refl;
      deadline = refl;
      released = (refl, refl, refl);
    },
    (
      16,
      record {
        behind = 15;
        body = (15, record { has = (refl, tt); end = refl }, refl);
        end = refl;
        handler = (refl, refl, refl, refl);
        start = refl;
        locals = refl;
        words = refl;
        tree = refl;
        frame = refl;
        deadline = refl;
        released = (refl, refl, refl);
      },
      refl,
    ),
  );
  monitor_words = (refl, refl, tt);
  condition_table = refl;
  device_table = refl;
}

-- one of two
first_or_second : (P : Routine → Type 0) (a b : Routine) → P a → P b → (j : ℕ) (r : Routine) → slice_get (a ∷ b ∷ []) j ≡ Some r → P r
first_or_second P a b pa pb zero r e = subst P (ap (λ o. unwrap_or o r) e) pa
first_or_second P a b pa pb (suc zero) r e = subst P (ap (λ o. unwrap_or o r) e) pb
first_or_second P a b pa pb (suc (suc j)) r e = absurd (none-some r e)

names_apart : NamesApart signalled_wait
names_apart = record {
  differ = record {
    program = λ j r e. absurd (none-some r e);
    process = of_processes;
    monitor = of_monitors;
  };
  apart = λ k p f r there e. absurd (none-some r e);
  routine_calls_program = λ j r e. absurd (none-some r e);
  entry_calls_program = of_entries;
}
  where
    of_processes : (k : ℕ) (p : Process) → slice_get (processes signalled_wait) k ≡ Some p → AllFound p.routines
    of_processes zero p e = λ j r at. absurd (none-some r (subst (λ x. slice_get x.routines j ≡ Some r) (sym (ap (λ o. unwrap_or o p) e)) at))
    of_processes (suc zero) p e = λ j r at. absurd (none-some r (subst (λ x. slice_get x.routines j ≡ Some r) (sym (ap (λ o. unwrap_or o p) e)) at))
    of_processes (suc (suc k)) p e = absurd (none-some p e)

    of_monitors : (m : ℕ) (k : Monitor) → slice_get (monitors signalled_wait) m ≡ Some k → AllFound k.entries
    of_monitors zero k e = subst (λ x. AllFound x.entries) (ap (λ o. unwrap_or o k) e) (first_or_second _ _ _ refl refl)
    of_monitors (suc m) k e = absurd (none-some k e)

    of_entries : (m : ℕ) (k : Monitor) (j : ℕ) (r : Routine) → slice_get (monitors signalled_wait) m ≡ Some k → slice_get k.entries j ≡ Some r → AllOfProgram signalled_wait (routine_calls r)
    of_entries zero k j r e at = first_or_second (λ x. AllOfProgram signalled_wait (routine_calls x)) _ _ tt tt j r (subst (λ x. slice_get x.entries j ≡ Some r) (sym (ap (λ o. unwrap_or o k) e)) at)
    of_entries (suc m) k j r e at = absurd (none-some k e)

pub example_meets : ExampleMeets
example_meets over = (signalled_wait_fits, names_apart, code_is over)
