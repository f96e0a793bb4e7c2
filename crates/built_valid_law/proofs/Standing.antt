-- What is outside a text lies in the image where its code finds it.
use Rattle.std.specs.Prelude.{◌≡◌, ◌≤◌, ◌+◌, ℕ, zero, suc, Bool, true, false, cond, pos, List, [], ◌∷◌, length, Some, nat_eq, slice_get, Contains}
use Rattle.std.proofs.Common.{refl, sym, ap, subst, ◌∙◌, arith}
use Rattle.std.proofs.lemmas.Bool.{eq-eqb, and_from}
use Rattle.base.proofs.Lists.{one_of}
use Rattle.base.proofs.Members.{none_in}
use Rattle.syntax_tree.specs.Plain.{Name, Monitor, Process, device, Program}
use Rattle.source_semantics.specs.Names.{monitors, processes, device_number, conditions_of, condition_number}
use Rattle.machine_isa.specs.declared.instr.Instr.{Instr}
use Rattle.machine_semantics.specs.Image as image
use Rattle.valid_image.specs.Operands.{Whose, no_words, words_of_process, words_of_monitor, own_words, monitor_words, is_same, is_own_condition, goes, is_device}
use Rattle.code_spec.specs.Layout.{by_program, by_process, by_monitor, home_of, in_process, in_monitor, words_of, places_from, vars_of_process, process_places, monitor_vars, vars_of_monitor, monitor_base, monitor_places}
use Rattle.code_spec.specs.Emits.{condition_of}
use Rattle.code_spec.specs.Compiled.{EmitsProcess, EmitsProcesses, IsCodeOf, owner_number}
use Rattle.static_semantics.specs.Here.{conditions_here, monitor_conditions}
use Rattle.static_semantics.specs.WellFormed.{MonitorFits, IsWellFormed}
use Rattle.codegen_law.specs.Ruled.{NamesApart}
use Rattle.codegen_law.proofs.Tables.{condition_row}
use Rattle.built_valid_law.specs.Lies.{AllLie}
use Rattle.built_valid_law.specs.Areas.{HasWords, DevicesGoOneWay}
use Rattle.built_valid_law.proofs.AreasLemmas.{named_lies, variables_lie}
use Rattle.built_valid_law.proofs.Tables.{monitors_have_words, devices_stand}
use Rattle.built_valid_law.specs.Fine.{Stands}
use Rattle.codegen_law.proofs.Owners.{process_fits}

-- a process of the text has its process in the image
pub record Made (g : Program) (m : image.Image) (k : ℕ) (t : Process) : Type 0 where
  pub process : image.Process
  pub there : slice_get m.processes k ≡ Some process
  pub next : ℕ
  pub emits : EmitsProcess g m.code k t process.start next process

made_at : (g : Program) (code : List Instr) (n p q : ℕ) (ts : List Process) (rs : List image.Process) (k : ℕ) (t : Process) → EmitsProcesses g code n p q ts rs → slice_get ts k ≡ Some t
    → (x : image.Process) × (next : ℕ) × (slice_get rs k ≡ Some x) × EmitsProcess g code (n + k) t x.start next x
made_at g code n p q [] rs k t h at = absurd cc
made_at g code n p q (u ∷ us) [] k t h at = absurd h
made_at g code n p q (u ∷ us) (y ∷ ys) zero t h at =
    let same : u ≡ t = cc in
    let flat : n ≡ n + 0 = omega arith in
    (y, h.0, refl, subst (λ z. EmitsProcess g code (n + 0) z y.start h.0 y) same (subst (λ j. EmitsProcess g code j u y.start h.0 y) flat (subst (λ a. EmitsProcess g code n u a h.0 y) (sym h.1.start) h.1)))
made_at g code n p q (u ∷ us) (y ∷ ys) (suc k) t h at =
    let b = made_at g code (suc n) h.0 q us ys k t h.2 at in
    let further : suc n + k ≡ n + suc k = omega arith in
    (b.0, b.1, b.2, subst (λ j. EmitsProcess g code j t b.0.start b.1 b.0) further b.3)

pub made : (g : Program) (m : image.Image) → IsCodeOf g m → (k : ℕ) (t : Process) → slice_get (processes g) k ≡ Some t → Made g m k t
made g m is k t at =
    let b = made_at g m.code 0 is.between (length m.code) (processes g) m.processes k t is.process_code at in
    let flat : 0 + k ≡ k = omega arith in
    record { process = b.0; there = b.2; next = b.1; emits = subst (λ j. EmitsProcess g m.code j t b.0.start b.1 b.0) flat b.3 }

text_from : (g : Program) (code : List Instr) (n p q : ℕ) (ts : List Process) (rs : List image.Process) (k : ℕ) (x : image.Process) → EmitsProcesses g code n p q ts rs → slice_get rs k ≡ Some x → (t : Process) × (slice_get ts k ≡ Some t)
text_from g code n p q [] [] k x h at = absurd cc
text_from g code n p q [] (y ∷ ys) k x h at = absurd h
text_from g code n p q (u ∷ us) [] k x h at = absurd h
text_from g code n p q (u ∷ us) (y ∷ ys) zero x h at = (u, refl)
text_from g code n p q (u ∷ us) (y ∷ ys) (suc k) x h at = text_from g code (suc n) h.0 q us ys k x h.2 at

-- and the other way
pub text_there : (g : Program) (m : image.Image) → IsCodeOf g m → (k : ℕ) (x : image.Process) → slice_get m.processes k ≡ Some x → (t : Process) × (slice_get (processes g) k ≡ Some t)
text_there g m is k x at = text_from g m.code 0 is.between (length m.code) (processes g) m.processes k x is.process_code at

module _ (g : Program) (m : image.Image) (form : IsWellFormed g) (names : NamesApart g) (one : DevicesGoOneWay g) (is : IsCodeOf g m) where
  goes_so : (out : Bool) → goes out (Some out) ≡ true
  goes_so true = refl
  goes_so false = refl

  device_there : (d : Name) (out : Bool) → Contains g.decls (device d out) → is_device m out (pos (device_number g d)) ≡ true
  device_there d out h =
      ap (λ ds. goes out (slice_get ds (device_number g d))) is.device_table ∙ (ap (λ o. goes out o) (devices_stand g d out one h) ∙ goes_so out)

  -- ---- in a routine of the program

  pub program_stands : (w : Whose) → Stands g m w by_program
  program_stands w = record {
    outer = λ x. tt;
    conditions = λ x h. absurd (none_in x h);
    monitor = λ j e. absurd (differs j e);
    devices = λ d out h. device_there d out h;
  }
    where
      differs : (j : ℕ) → by_program ≡ by_monitor j → ⊥
      differs j e = cc

  -- ---- in a process

  owned : (w : Whose) (k : ℕ) (t : Process) → w.kind ≡ 1 → w.owner ≡ k → slice_get (processes g) k ≡ Some t → AllLie (own_words m w) (process_places g k)
  owned w k t kind owner at =
      let p = made g m is k t at in
      let area : own_words m w ≡ record { base = 0; words = p.process.words } =
      ap (λ n. cond (nat_eq n 1) (words_of_process (slice_get m.processes w.owner)) no_words) kind
      ∙ (ap (λ n. words_of_process (slice_get m.processes n)) owner ∙ ap (λ o. words_of_process o) p.there) in
      subst (λ a. AllLie a (process_places g k)) (sym area)
      (subst (λ o. AllLie (record { base = 0; words = p.process.words }) (places_from g 0 (vars_of_process o))) (sym at)
      (variables_lie g (record { base = 0; words = p.process.words }) 0 t.vars (process_fits g form names k t at).vars (omega arith) (room p.process.words (words_of g t.vars) p.emits.words)))
    where
      room : (a b : ℕ) → a ≡ b → 0 + b ≤ 0 + a
      room a b e = omega (arith, e)

  pub process_stands : (w : Whose) (k : ℕ) (t : Process) → w.kind ≡ 1 → w.owner ≡ k → slice_get (processes g) k ≡ Some t → Stands g m w (by_process k)
  process_stands w k t kind owner at = record {
    outer = λ x. named_lies m w in_process x (process_places g k) (owned w k t kind owner at);
    conditions = λ x h. absurd (none_in x h);
    monitor = λ j e. absurd (differs k j e);
    devices = λ d out h. device_there d out h;
  }
    where
      differs : (k j : ℕ) → by_process k ≡ by_monitor j → ⊥
      differs k j e = cc

  -- ---- in an entry

  shared : (w : Whose) (j : ℕ) (d : Monitor) → w.kind ≡ 2 → w.owner ≡ j → slice_get (monitors g) j ≡ Some d → AllLie (monitor_words m w) (monitor_places g j)
  shared w j d kind owner at =
      let x : (x : image.Monitor) × (slice_get m.monitors j ≡ Some x) × HasWords g (monitor_base g j) d x = monitors_have_words g 0 (monitors g) m.monitors j d is.monitor_words at in
      let area : monitor_words m w ≡ record { base = x.0.base; words = x.0.words } =
      ap (λ n. cond (nat_eq n 2) (words_of_monitor (slice_get m.monitors w.owner)) no_words) kind
      ∙ (ap (λ n. words_of_monitor (slice_get m.monitors n)) owner ∙ ap (λ o. words_of_monitor o) x.1) in
      subst (λ a. AllLie a (monitor_places g j)) (sym area)
      (subst (λ o. AllLie (record { base = x.0.base; words = x.0.words }) (places_from g (monitor_base g j) (vars_of_monitor o))) (sym at)
      (variables_lie g (record { base = x.0.base; words = x.0.words }) (monitor_base g j) (monitor_vars d) (one_of (λ y. MonitorFits g y) (monitors g) j d form.monitors_fit at)
      (low x.0.base (monitor_base g j) x.2.base_is) (room x.0.base (monitor_base g j) x.0.words (words_of g (monitor_vars d)) x.2.base_is x.2.words_are)))
    where
      low : (a b : ℕ) → a ≡ b → a ≤ b
      low a b e = omega (arith, e)

      room : (a b u v : ℕ) → a ≡ b → u ≡ v → b + v ≤ a + u
      room a b u v e f = omega (arith, e, f)

  condition_there : (w : Whose) (j : ℕ) (d : Monitor) → w.kind ≡ 2 → w.owner ≡ j → slice_get (monitors g) j ≡ Some d → (x : Name) → Contains (conditions_here g (home_of (by_monitor j))) x
      → is_own_condition m w (pos (condition_of g (by_monitor j) x)) ≡ true
  condition_there w j d kind owner at x h =
      let listed : Contains (conditions_of d) x = subst (λ o. Contains (monitor_conditions o) x) at h in
      and_from (nat_eq w.kind 2) (is_same w.owner (slice_get m.conditions (condition_number g j x))) (eq-eqb w.kind 2 kind)
      (ap (λ cs. is_same w.owner (slice_get cs (condition_number g j x))) is.condition_table ∙ (ap (λ o. is_same w.owner o) (condition_row x d (monitors g) j at listed) ∙ eq-eqb j w.owner (sym owner)))

  pub monitor_stands : (w : Whose) (j : ℕ) (d : Monitor) → w.kind ≡ 2 → w.owner ≡ j → slice_get (monitors g) j ≡ Some d → Stands g m w (by_monitor j)
  monitor_stands w j d kind owner at = record {
    outer = λ x. named_lies m w in_monitor x (monitor_places g j) (shared w j d kind owner at);
    conditions = λ x h. condition_there w j d kind owner at x h;
    monitor = λ i e. and_from (nat_eq w.kind 2) (nat_eq i w.owner) (eq-eqb w.kind 2 kind) (eq-eqb i w.owner (sym (owner ∙ same j i e)));
    devices = λ d out h. device_there d out h;
  }
    where
      same : (j i : ℕ) → by_monitor j ≡ by_monitor i → j ≡ i
      same j i e = ap (λ o. owner_number o) e
