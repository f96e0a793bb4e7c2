-- A text comes to one that passes a test just where it comes to such a text as its goal.
use Rattle.std.specs.Prelude.{◌≡◌, ◌||◌, ℕ, zero, suc, Bool, true, List, [], ◌∷◌, Option, Some, None, Contains}
use Rattle.std.proofs.Common.{inl, inr, refl, sym, ap, ◌∙◌}
use Rattle.std.proofs.lemmas.Bool.{false≢true, or_cases}
use Rattle.base.proofs.Members.{at_front, behind, none_in, front_or_behind}
use Rattle.syntax_tree.specs.Plain.{Process, Program}
use Rattle.source_semantics.specs.Names.{routine_count}
use Rattle.code_spec.specs.Layout.{by_process}
use Rattle.code_spec.specs.Numbering.{Text, Called, called_text, routine_calls, same_text}
use Rattle.codegen_law.specs.Ruled.{NamesApart}
use Rattle.codegen_law.proofs.NameNumbers.{IsText, called_is_text, or_true, text_is}
use Rattle.codegen_law.proofs.Rows.{text_same}
use Rattle.sched_program.specs.Tasks.{passes_some, some_called, process_calls, comes_to, process_comes_to}
use Rattle.built_tasks_law.specs.Touches.{comes_to_one, process_comes_to_one}
use Rattle.built_tasks_law.proofs.Lists.{called_alike}

-- ---- one of the called texts passes

record Passed (test : Text → Bool) (means : Called → Option Text) (cs : List Called) : Type 0 where
  call : Called
  text : Text
  listed : Contains cs call
  is : means call ≡ Some text
  passes : test text ≡ true

passed : (test : Text → Bool) (means : Called → Option Text) (cs : List Called) → some_called test means cs ≡ true → Passed test means cs
passed test means [] h = absurd (false≢true h)
passed test means (c ∷ cs) h = elim (or_cases (passes_some test (means c)) (some_called test means cs) h) [
  | inl one ↦ first (means c) refl one
  | inr rest ↦ later (passed test means cs rest)
] where
  first : (o : Option Text) → means c ≡ o → passes_some test o ≡ true → Passed test means (c ∷ cs)
  first None is one = absurd (false≢true one)
  first (Some u) is one = record { call = c; text = u; listed = at_front c cs; is = is; passes = one }

  later : Passed test means cs → Passed test means (c ∷ cs)
  later p = record { call = p.call; text = p.text; listed = behind c cs p.call p.listed; is = p.is; passes = p.passes }

passing : (test : Text → Bool) (means : Called → Option Text) (cs : List Called) (c : Called) (u : Text) → Contains cs c → means c ≡ Some u → test u ≡ true → some_called test means cs ≡ true
passing test means [] c u listed is h = absurd (none_in c listed)
passing test means (d ∷ cs) c u listed is h = elim (front_or_behind d cs c listed) [
  | inl e ↦ ap (λ b. b || some_called test means cs) (ap (λ x. passes_some test (means x)) e ∙ (ap (λ o. passes_some test o) is ∙ h))
  | inr later ↦ ap (λ b. passes_some test (means d) || b) (passing test means cs c u later is h) ∙ or_true (passes_some test (means d))
]

-- ---- a goal as a test

goal_alike : (g : Program) (n : ℕ) (goal t : Text) → comes_to n g goal t ≡ comes_to_one n g (same_text goal) t
unfolding comes_to comes_to_one
goal_alike g zero goal t = refl
goal_alike g (suc n) goal t =
    ap (λ b. same_text goal t || b)
    (called_alike (comes_to n g goal) (comes_to_one n g (same_text goal)) (called_text g t.owner) (routine_calls t.routine) (λ c u i e. goal_alike g n goal u))

module _ (g : Program) (names : NamesApart g) where
  -- a test that passes more
  along : (test other : Text → Bool) → ((u : Text) → IsText g u → test u ≡ true → other u ≡ true) → (n : ℕ) (t : Text) → IsText g t → comes_to_one n g test t ≡ true → comes_to_one n g other t ≡ true
  unfolding comes_to_one
  along test other more zero t text h = more t text h
  along test other more (suc n) t text h = elim (or_cases (test t) (some_called (comes_to_one n g test) (called_text g t.owner) (routine_calls t.routine)) h) [
    | inl here ↦ ap (λ b. b || some_called (comes_to_one n g other) (called_text g t.owner) (routine_calls t.routine)) (more t text here)
    | inr later ↦
        let p = passed (comes_to_one n g test) (called_text g t.owner) (routine_calls t.routine) later in
        let rest = along test other more n p.text (called_is_text g names.differ t.owner p.call p.text p.is) p.passes in
        ap (λ b. other t || b) (passing (comes_to_one n g other) (called_text g t.owner) (routine_calls t.routine) p.call p.text p.listed p.is rest) ∙ or_true (other t)
  ]

  -- what is come to
  pub record Goal (test : Text → Bool) (Comes : Text → Type 0) : Type 0 where
    pub goal : Text
    pub text : IsText g goal
    pub passes : test goal ≡ true
    pub comes : Comes goal

  goal_of : (test : Text → Bool) (n : ℕ) (t : Text) → IsText g t → comes_to_one n g test t ≡ true → Goal test (λ goal. comes_to_one n g (same_text goal) t ≡ true)
  unfolding comes_to_one
  goal_of test zero t text h = record { goal = t; text = text; passes = h; comes = text_is t }
  goal_of test (suc n) t text h = elim (or_cases (test t) (some_called (comes_to_one n g test) (called_text g t.owner) (routine_calls t.routine)) h) [
    | inl here ↦ record {
      goal = t;
      text = text;
      passes = here;
      comes = ap (λ b. b || some_called (comes_to_one n g (same_text t)) (called_text g t.owner) (routine_calls t.routine)) (text_is t);
    }
    | inr later ↦
        let p = passed (comes_to_one n g test) (called_text g t.owner) (routine_calls t.routine) later in
        let rest = goal_of test n p.text (called_is_text g names.differ t.owner p.call p.text p.is) p.passes in
        record {
          goal = rest.goal;
          text = rest.text;
          passes = rest.passes;
          comes =
              ap (λ b. same_text rest.goal t || b)
              (passing (comes_to_one n g (same_text rest.goal)) (called_text g t.owner) (routine_calls t.routine) p.call p.text p.listed p.is rest.comes)
              ∙ or_true (same_text rest.goal t);
        }
  ]

  -- ---- from a process

  pub process_goal : (test : Text → Bool) (k : ℕ) (p : Process) → process_comes_to_one g test k p ≡ true → Goal test (λ goal. process_comes_to g goal k p ≡ true)
  process_goal test k p h =
      let n = routine_count g in
      let c = passed (comes_to_one n g test) (called_text g (by_process k)) (process_calls p) h in
      let found = goal_of test n c.text (called_is_text g names.differ (by_process k) c.call c.text c.is) c.passes in
      record {
        goal = found.goal;
        text = found.text;
        passes = found.passes;
        comes = passing (comes_to n g found.goal) (called_text g (by_process k)) (process_calls p) c.call c.text c.listed c.is (goal_alike g n found.goal c.text ∙ found.comes);
      }

  pub process_comes : (test : Text → Bool) (k : ℕ) (p : Process) (goal : Text) → IsText g goal → test goal ≡ true → process_comes_to g goal k p ≡ true → process_comes_to_one g test k p ≡ true
  process_comes test k p goal text passes h =
      let n = routine_count g in
      let c = passed (comes_to n g goal) (called_text g (by_process k)) (process_calls p) h in
      let there = along (same_text goal) test (λ u is same. ap (λ x. test x) (sym (text_same g goal u text is same)) ∙ passes) n c.text (called_is_text g names.differ (by_process k) c.call c.text c.is)
      (sym (goal_alike g n goal c.text) ∙ c.passes) in
      passing (comes_to_one n g test) (called_text g (by_process k)) (process_calls p) c.call c.text c.listed c.is there
