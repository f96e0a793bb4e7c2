-- The program of the example keeps to the static rules where its code stands.
use Rattle.std.proofs.Common.{◌≡◌, ◌⊎◌, inl, inr, ℕ, zero, suc, List, [], ◌∷◌, Some, None, refl, ap, sym, subst, ◌∙◌, Bool}
use Rattle.std.specs.Prelude.{slice_get, bytes_eq, cond, codes, option_map}
use Rattle.std.proofs.lemmas.Bool.{cases_Bool}
use Rattle.base.proofs.Lists.{one_some}
use Rattle.syntax_tree.specs.Plain.{Name, Program}
use Rattle.syntax_tree.specs.Plain as tree
use Rattle.source_semantics.specs.Names.{named, processes, monitors, routine_count}
use Rattle.source_semantics.specs.Run.{routine_named}
use Rattle.source_semantics.specs.Ranks.{reached}
use Rattle.source_semantics_law.specs.Example.{signalled_wait}
use Rattle.machine_semantics.specs.Image.{Process}
use Rattle.code_spec.specs.Layout.{by_monitor}
use Rattle.code_spec.specs.Numbering.{Text, entry_in, entry_of, routine_of}
use Rattle.code_spec.specs.Compiled.{process_scope}
use Rattle.code_spec.specs.Memory.{Setting}
use Rattle.code_spec.specs.Proper.{Reaches, ProperAll, found_of}
use Rattle.code_correct.specs.Known.{IsProper as IsProperRoutine}
use Rattle.codegen_law.specs.Kept.{AllFound, NamesDiffer}
use Rattle.code_correct.specs.Kept.{KeepsRules}
use Rattle.code_correct.specs.Process.{setting_of, ProperHandler}
use Rattle.code_lifting.specs.Image.{compiled_of}
use Rattle.code_lifting.specs.Example.{meeting}
use Rattle.code_lifting.proofs.Lists.{none_some}
use Rattle.examples_law.specs.Headline.{flat, MeetingIsProper}
use Rattle.code_lifting.proofs.MeetingRight.{text}

abbrev pub nth_monitor : List tree.Monitor → tree.Monitor
nth_monitor (m ∷ ms) = m
nth_monitor [] = record { name = []; members = []; entries = [] }

abbrev pub nth_routine : List tree.Routine → ℕ → tree.Routine
nth_routine [] k = record { name = []; params = []; vars = []; body = tree.no_stmts; answers = None }
nth_routine (r ∷ rs) zero = r
nth_routine (r ∷ rs) (suc k) = nth_routine rs k

abbrev pub m : tree.Monitor
m = nth_monitor (monitors signalled_wait)

abbrev entry_text : ℕ → Text
entry_text k = record { owner = by_monitor 0; routine = nth_routine m.entries k }

-- the program has these two entries
two_entries : (mon entry : Name) (t : Text) → entry_in signalled_wait mon entry ≡ Some t → (entry_text 0 ≡ t) ⊎ (entry_text 1 ≡ t)
two_entries mon entry t at = elim (cases_Bool (bytes_eq m.name mon)) [
  | inl is ↦ by_entry (sym (ap (λ (b : Bool). entry_of (cond b 0 1) (cond b (Some m) None) entry) is) ∙ at)
  | inr is_not ↦ absurd (none_some refl (sym (ap (λ (b : Bool). entry_of (cond b 0 1) (cond b (Some m) None) entry) is_not) ∙ at))
] where
  by_entry : routine_of (by_monitor 0) m.entries entry ≡ Some t → (entry_text 0 ≡ t) ⊎ (entry_text 1 ≡ t)
  by_entry found = elim (cases_Bool (bytes_eq (codes "w") entry)) [
    | inl is ↦ inl (one_some (ap (λ (b : Bool). option_map (λ r. record { owner = by_monitor 0; routine = r }) (cond b (Some (nth_routine m.entries 0)) (cond (bytes_eq (codes "s") entry) (Some (nth_routine m.entries 1)) None))) is) found)
    | inr is_not ↦ elim (cases_Bool (bytes_eq (codes "s") entry)) [
      | inl is ↦ inr (one_some (ap (λ (b : Bool). option_map (λ r. record { owner = by_monitor 0; routine = r }) (cond b (Some (nth_routine m.entries 0)) (cond (bytes_eq (codes "s") entry) (Some (nth_routine m.entries 1)) None))) is_not ∙ ap (λ (b : Bool). option_map (λ r. record { owner = by_monitor 0; routine = r }) (cond b (Some (nth_routine m.entries 1)) None)) is) found)
      | inr nor ↦ absurd (none_some (ap (λ (b : Bool). option_map (λ r. record { owner = by_monitor 0; routine = r }) (cond b (Some (nth_routine m.entries 0)) (cond (bytes_eq (codes "s") entry) (Some (nth_routine m.entries 1)) None))) is_not ∙ ap (λ (b : Bool). option_map (λ r. record { owner = by_monitor 0; routine = r }) (cond b (Some (nth_routine m.entries 1)) None)) nor) found)
    ]
  ]

abbrev e : ℕ → ℕ → Process → Setting
e over k p = setting_of (compiled_of (meeting over) k p (text k)) flat

module _ (over : ℕ) (p : Process) where
  reaches_0 : Reaches (e over 0 p) 0
  unfolding reached
  reaches_0 = record { monitor = record { base = 0; words = 0; ceiling = 1 }; there = refl; reached = refl }

  reaches_1 : Reaches (e over 1 p) 0
  unfolding reached
  reaches_1 = record { monitor = record { base = 0; words = 0; ceiling = 1 }; there = refl; reached = refl }

  -- the entry that waits, and the one that signals, in the text of a process that reaches the monitor
  proper_0 : (k : ℕ) → Reaches (e over k p) 0 → IsProperRoutine (e over k p) (entry_text 0) (routine_count signalled_wait)
  proper_0 k reaches = record { body = ((record { monitor = 0; owner = refl; condition = refl; reaches = reaches }, refl), tt); answers = tt }

  proper_1 : (k : ℕ) → IsProperRoutine (e over k p) (entry_text 1) (routine_count signalled_wait)
  proper_1 k = record { body = (refl, tt); answers = tt }

  no_routine : (k : ℕ) (f : Name) (t : Text) → routine_named signalled_wait (text k) f ≡ Some (found_of t) → ⊥
  no_routine zero f t at = cc
  no_routine (suc zero) f t at = cc
  no_routine (suc (suc k)) f t at = cc

  entries_of : (k : ℕ) → Reaches (e over k p) 0 → (t : Text) → (entry_text 0 ≡ t) ⊎ (entry_text 1 ≡ t) → IsProperRoutine (e over k p) t (routine_count signalled_wait)
  entries_of k reaches t (inl is) = subst (λ (x : Text). IsProperRoutine (e over k p) x (routine_count signalled_wait)) is (proper_0 k reaches)
  entries_of k reaches t (inr is) = subst (λ (x : Text). IsProperRoutine (e over k p) x (routine_count signalled_wait)) is (proper_1 k)

  body_0 : ProperAll (e over 0 p) (process_scope signalled_wait 0 (text 0)) (routine_count signalled_wait) (text 0).body
  body_0 = ((entry_text 0, refl, record { may_act = refl; outside = tt; entry_is = record { in_code = refl; in_source = refl; owner = refl; reaches = reaches_0 }; args = tt }), tt)

  body_1 : ProperAll (e over 1 p) (process_scope signalled_wait 1 (text 1)) (routine_count signalled_wait) (text 1).body
  body_1 = ((entry_text 1, refl, record { may_act = refl; outside = tt; entry_is = record { in_code = refl; in_source = refl; owner = refl; reaches = reaches_1 }; args = tt }), tt)

  handler_0 : ProperHandler (e over 0 p) (text 0).handler
  handler_0 = ((tt, refl), tt)

  rules_0 : KeepsRules (e over 0 p)
  rules_0 = record {
    body = body_0;
    handler = handler_0;
    routines = λ f t at mine runs. absurd (no_routine 0 f t at);
    few = λ f t at mine. absurd (no_routine 0 f t at);
    entries = λ mon entry t is. entries_of 0 reaches_0 t (two_entries mon entry t is.in_code);
  }

  rules_1 : KeepsRules (e over 1 p)
  rules_1 = record {
    body = body_1;
    handler = tt;
    routines = λ f t at mine runs. absurd (no_routine 1 f t at);
    few = λ f t at mine. absurd (no_routine 1 f t at);
    entries = λ mon entry t is. entries_of 1 reaches_1 t (two_entries mon entry t is.in_code);
  }

-- ---- names

pub none_found : AllFound []
none_found j r at = absurd cc

pub entries_found : AllFound m.entries
entries_found zero r at = subst (λ (x : tree.Routine). named (λ k. k.name) x.name m.entries ≡ Some x) (one_some refl at) refl
entries_found (suc zero) r at = subst (λ (x : tree.Routine). named (λ k. k.name) x.name m.entries ≡ Some x) (one_some refl at) refl
entries_found (suc (suc j)) r at = absurd cc

pub names_differ : NamesDiffer signalled_wait
names_differ = record { program = none_found; process = of_process; monitor = of_monitor } where
  of_process : (k : ℕ) (p : tree.Process) → slice_get (processes signalled_wait) k ≡ Some p → AllFound p.routines
  of_process zero p at = subst (λ (x : tree.Process). AllFound x.routines) (one_some refl at) none_found
  of_process (suc zero) p at = subst (λ (x : tree.Process). AllFound x.routines) (one_some refl at) none_found
  of_process (suc (suc k)) p at = absurd cc

  of_monitor : (k : ℕ) (x : tree.Monitor) → slice_get (monitors signalled_wait) k ≡ Some x → AllFound x.entries
  of_monitor zero x at = subst (λ (y : tree.Monitor). AllFound y.entries) (one_some refl at) entries_found
  of_monitor (suc k) x at = absurd cc

pub meeting_is_proper : MeetingIsProper
meeting_is_proper over = record { names = names_differ; rules = rules } where
  rules : (k : ℕ) (p : Process) (x : tree.Process) → slice_get (meeting over).image.processes k ≡ Some p → slice_get (processes signalled_wait) k ≡ Some x → KeepsRules (setting_of (compiled_of (meeting over) k p x) flat)
  rules zero p x at_p at_x = subst (λ (y : tree.Process). KeepsRules (setting_of (compiled_of (meeting over) 0 p y) flat)) (one_some refl at_x) (rules_0 over p)
  rules (suc zero) p x at_p at_x = subst (λ (y : tree.Process). KeepsRules (setting_of (compiled_of (meeting over) 1 p y) flat)) (one_some refl at_x) (rules_1 over p)
  rules (suc (suc k)) p x at_p at_x = absurd cc
