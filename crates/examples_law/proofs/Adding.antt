-- The image with a monitor's word is that of its program, and its code is right.
use Rattle.std.proofs.Common.{◌≡◌, inl, inr, ℕ, zero, suc, Some, None, refl, ap, sym, subst, ◌∙◌, Bool, arith}
use Rattle.std.specs.Prelude.{slice_get, bytes_eq, cond, codes, option_map, unwrap_or}
use Rattle.std.proofs.lemmas.Bool.{cases_Bool}
use Rattle.base.proofs.Lists.{one_some}
use Rattle.syntax_tree.specs.Plain.{Name}
use Rattle.syntax_tree.specs.Plain as tree
use Rattle.source_semantics.specs.Names.{processes, monitors, named, routine_count}
use Rattle.source_semantics.specs.Run.{routine_named}
use Rattle.source_semantics.specs.Ranks.{reached, rank, ceiling}
use Rattle.source_semantics_law.specs.Example.{three_ranks}
use Rattle.machine_semantics.specs.Image.{Process, Monitor}
use Rattle.code_spec.specs.Layout.{by_monitor}
use Rattle.code_spec.specs.Numbering.{Text, entry_in, entry_of, routine_of, numbered, visit, number_of}
use Rattle.code_spec.specs.Compiled.{IsCodeOf, process_scope}
use Rattle.code_spec.specs.Memory.{Setting}
use Rattle.code_spec.specs.Proper.{Reaches, ProperAll, found_of}
use Rattle.code_correct.specs.Known.{IsProper as IsProperRoutine}
use Rattle.codegen_law.specs.Kept.{AllFound, NamesDiffer}
use Rattle.code_correct.specs.Kept.{KeepsRules}
use Rattle.code_correct.specs.Process.{setting_of, ProperHandler}
use Rattle.code_lifting.specs.Image.{compiled_of}
use Rattle.code_lifting.proofs.Lists.{none_some}
use Rattle.examples_law.specs.Headline.{flat}
use Rattle.code_correct.specs.Headline.{IsProper}
use Rattle.examples_law.specs.Adding.{adding, AddingIsImage, AddingIsRight, LowCeilingIsNone}
use Rattle.code_correct.proofs.HeadlineLemmas.{proper_code_is_right}
use Rattle.examples_law.proofs.MeetingProper.{nth_monitor, nth_routine, none_found}
use Rattle.code_lifting.proofs.MeetingRight.{nth_text}

code_is : IsCodeOf adding.program adding.image
unfolding numbered visit number_of
code_is = record {
  between = 7;
  routine_code = (
    7,
    record { kind = refl; owner = refl; params = refl; locals = refl; gives = refl; tree = refl },
    refl,
    record { inside = 1; enters = record { has = (refl, tt); end = refl }; behind = 5; body = (5, record { has = (refl, (refl, (refl, (refl, tt)))); end = refl }, refl); rest = record { has = (refl, (refl, tt)); end = refl } },
    refl,
  );
  process_code = (
    9,
    record {
      behind = 8;
      body = (8, record { has = (refl, tt); end = refl }, refl);
      end = refl;
      handler = (refl, refl, refl, refl);
      start = refl;
      locals = refl;
      words = refl;
      tree = refl;
      frame = refl;
      deadline = refl;
      released = (refl, refl, refl);
    },
    (
      11,
      record {
        behind = 10;
        body = (10, record { has = (refl, tt); end = refl }, refl);
        end = refl;
        handler = (refl, refl, refl, refl);
        start = refl;
        locals = refl;
        words = refl;
        tree = refl;
        frame = refl;
        deadline = refl;
        released = (refl, refl, refl);
      },
      (
        14,
        record {
          behind = 13;
          body = (13, record { has = (refl, (refl, tt)); end = refl }, refl);
          end = refl;
          handler = (refl, refl, refl, refl);
          start = refl;
          locals = refl;
          words = refl;
          tree = refl;
          frame = refl;
          deadline = refl;
          released = (refl, refl, refl);
        },
        refl,
      ),
    ),
  );
  monitor_words = (refl, refl, tt);
  condition_table = refl;
  device_table = refl;
}

ranks_are : (k : ℕ) (p : Process) → slice_get adding.image.processes k ≡ Some p → p.rank ≡ rank adding.program k
ranks_are zero p at = ap (λ (x : Process). x.rank) (sym (one_some refl at))
ranks_are (suc zero) p at = ap (λ (x : Process). x.rank) (sym (one_some refl at))
ranks_are (suc (suc zero)) p at = ap (λ (x : Process). x.rank) (sym (one_some refl at))
ranks_are (suc (suc (suc k))) p at = absurd cc

ceilings_are : (m : ℕ) (monitor : Monitor) → slice_get adding.image.monitors m ≡ Some monitor → monitor.ceiling ≡ unwrap_or (ceiling adding.program m) 65535
unfolding reached
ceilings_are zero monitor at = ap (λ (x : Monitor). x.ceiling) (sym (one_some refl at))
ceilings_are (suc m) monitor at = absurd cc

pub adding_is_image : AddingIsImage
adding_is_image = record { code = code_is; ranks = ranks_are; ceilings = ceilings_are }

pub low_ceiling_is_none : LowCeilingIsNone
unfolding reached
low_ceiling_is_none is = let e : 3 ≡ 2 = is.ceilings 0 (record { base = 0; words = 1; ceiling = 3 }) refl in omega (arith, e)

-- ---- its static rules

abbrev m : tree.Monitor
m = nth_monitor (monitors three_ranks)

abbrev entry_text : Text
entry_text = record { owner = by_monitor 0; routine = nth_routine m.entries 0 }

one_entry : (mon entry : Name) (t : Text) → entry_in three_ranks mon entry ≡ Some t → entry_text ≡ t
one_entry mon entry t at = elim (cases_Bool (bytes_eq m.name mon)) [
  | inl is ↦ by_entry (sym (ap (λ (b : Bool). entry_of (cond b 0 1) (cond b (Some m) None) entry) is) ∙ at)
  | inr is_not ↦ absurd (none_some refl (sym (ap (λ (b : Bool). entry_of (cond b 0 1) (cond b (Some m) None) entry) is_not) ∙ at))
] where
  by_entry : routine_of (by_monitor 0) m.entries entry ≡ Some t → entry_text ≡ t
  by_entry found = elim (cases_Bool (bytes_eq (codes "e") entry)) [
    | inl is ↦ one_some (ap (λ (b : Bool). option_map (λ r. record { owner = by_monitor 0; routine = r }) (cond b (Some (nth_routine m.entries 0)) None)) is) found
    | inr is_not ↦ absurd (none_some (ap (λ (b : Bool). option_map (λ r. record { owner = by_monitor 0; routine = r }) (cond b (Some (nth_routine m.entries 0)) None)) is_not) found)
  ]

abbrev text : ℕ → tree.Process
text k = nth_text (processes three_ranks) k

abbrev e : ℕ → Process → Setting
e k p = setting_of (compiled_of adding k p (text k)) flat

module _ (p : Process) where
  reaches_0 : Reaches (e 0 p) 0
  unfolding reached
  reaches_0 = record { monitor = record { base = 0; words = 1; ceiling = 2 }; there = refl; reached = refl }

  reaches_1 : Reaches (e 1 p) 0
  unfolding reached
  reaches_1 = record { monitor = record { base = 0; words = 1; ceiling = 2 }; there = refl; reached = refl }

  entry_proper : (k : ℕ) → IsProperRoutine (e k p) entry_text (routine_count three_ranks)
  entry_proper k = record { body = ((tt, (refl, (refl, λ is. absurd cc)), (refl, (tt, tt))), tt); answers = tt }

  no_routine : (k : ℕ) (f : Name) (t : Text) → routine_named three_ranks (text k) f ≡ Some (found_of t) → ⊥
  no_routine zero f t at = cc
  no_routine (suc zero) f t at = cc
  no_routine (suc (suc zero)) f t at = cc
  no_routine (suc (suc (suc k))) f t at = cc

  body_0 : ProperAll (e 0 p) (process_scope three_ranks 0 (text 0)) (routine_count three_ranks) (text 0).body
  body_0 = ((entry_text, refl, record { may_act = refl; outside = tt; entry_is = record { in_code = refl; in_source = refl; owner = refl; reaches = reaches_0 }; args = tt }), tt)

  body_1 : ProperAll (e 1 p) (process_scope three_ranks 1 (text 1)) (routine_count three_ranks) (text 1).body
  body_1 = ((entry_text, refl, record { may_act = refl; outside = tt; entry_is = record { in_code = refl; in_source = refl; owner = refl; reaches = reaches_1 }; args = tt }), tt)

  body_2 : ProperAll (e 2 p) (process_scope three_ranks 2 (text 2)) (routine_count three_ranks) (text 2).body
  body_2 = ((tt, refl), tt)

  rules_of : (k : ℕ) → ProperAll (e k p) (process_scope three_ranks k (text k)) (routine_count three_ranks) (text k).body → ProperHandler (e k p) (text k).handler → KeepsRules (e k p)
  rules_of k body handler = record {
    body = body;
    handler = handler;
    routines = λ f t at mine runs. absurd (no_routine k f t at);
    few = λ f t at mine. absurd (no_routine k f t at);
    entries = λ mon entry t is. subst (λ (x : Text). IsProperRoutine (e k p) x (routine_count three_ranks)) (one_entry mon entry t is.in_code) (entry_proper k);
  }

-- ---- names

entries_found : AllFound m.entries
entries_found zero r at = subst (λ (x : tree.Routine). named (λ k. k.name) x.name m.entries ≡ Some x) (one_some refl at) refl
entries_found (suc j) r at = absurd cc

names_differ : NamesDiffer three_ranks
names_differ = record { program = none_found; process = of_process; monitor = of_monitor } where
  of_process : (k : ℕ) (p : tree.Process) → slice_get (processes three_ranks) k ≡ Some p → AllFound p.routines
  of_process zero p at = subst (λ (x : tree.Process). AllFound x.routines) (one_some refl at) none_found
  of_process (suc zero) p at = subst (λ (x : tree.Process). AllFound x.routines) (one_some refl at) none_found
  of_process (suc (suc zero)) p at = subst (λ (x : tree.Process). AllFound x.routines) (one_some refl at) none_found
  of_process (suc (suc (suc k))) p at = absurd cc

  of_monitor : (k : ℕ) (x : tree.Monitor) → slice_get (monitors three_ranks) k ≡ Some x → AllFound x.entries
  of_monitor zero x at = subst (λ (y : tree.Monitor). AllFound y.entries) (one_some refl at) entries_found
  of_monitor (suc k) x at = absurd cc

adding_is_proper : IsProper adding (λ k. flat)
adding_is_proper = record { names = names_differ; rules = rules } where
  rules : (k : ℕ) (p : Process) (x : tree.Process) → slice_get adding.image.processes k ≡ Some p → slice_get (processes three_ranks) k ≡ Some x → KeepsRules (setting_of (compiled_of adding k p x) flat)
  rules zero p x at_p at_x = subst (λ (y : tree.Process). KeepsRules (setting_of (compiled_of adding 0 p y) flat)) (one_some refl at_x) (rules_of p 0 (body_0 p) tt)
  rules (suc zero) p x at_p at_x = subst (λ (y : tree.Process). KeepsRules (setting_of (compiled_of adding 1 p y) flat)) (one_some refl at_x) (rules_of p 1 (body_1 p) tt)
  rules (suc (suc zero)) p x at_p at_x = subst (λ (y : tree.Process). KeepsRules (setting_of (compiled_of adding 2 p y) flat)) (one_some refl at_x) (rules_of p 2 (body_2 p) tt)
  rules (suc (suc (suc k))) p x at_p at_x = absurd cc

pub adding_is_right : AddingIsRight
adding_is_right = proper_code_is_right adding (λ k. flat) adding_is_image adding_is_proper
