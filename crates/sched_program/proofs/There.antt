-- Each rank of a program has a block, and so each program has tasks.
use Rattle.std.proofs.Common.{◌≡◌, ◌≤◌, ◌<◌, ◌+◌, ◌-◌, ◌∙◌, ◌⊎◌, inl, inr, ℕ, zero, suc, Bool, true, false, List, [], ◌∷◌, Option, Some, None, length, arith, refl, ap, sym, subst}
use Rattle.std.specs.Prelude.{IsSomeAnd, slice_get, slice_index_or}
use Rattle.std.proofs.lemmas.Bool.{cases_lt, false≢true}
use Rattle.std.proofs.lemmas.Option.{same_Some, none-some, slice_get_within}
use Rattle.base.specs.Capped.{cap}
use Rattle.syntax_tree.specs.Plain.{Process, Program}
use Rattle.source_semantics.specs.Names.{processes, frame_of, deadline_of}
use Rattle.source_semantics.specs.Ranks.{rank, ceiling}
use Rattle.code_spec.specs.Layout.{Owner, by_program, by_process, by_monitor}
use Rattle.code_spec.specs.Numbering.{Text, numbered}
use Rattle.code_cost_spec.specs.Levels.{cost_of_process, stay_of_entry}
use Rattle.sched_response.specs.declared.tasks.Task.{Task}
use Rattle.sched_response.specs.Demand.{task_at}
use Rattle.sched_response.specs.Ranked.{IsGreatest}
use Rattle.sched_program.specs.Tasks.{process_comes_to, IsLowerStay, IsBlock, with_dispatches, IsTaskOf, AreTasksOf}
use Rattle.sched_program.specs.Once.{TasksAreThere}
use Rattle.sched_program.proofs.Greatest.{same_greatest, none_greatest, one_greatest, below_greatest}
use Rattle.sched_program.proofs.Levels.{many, rank_low, rank_high, rank_one, had}

-- ---- blocks

module _ (g : Program) (held : ℕ) where
  -- the stay of process k in the entry at this place of the numbering
  abbrev At : (k at n : ℕ) → Type 0
  At k at n = (l : IsLowerStay g held n) × (l.number ≡ k) × (l.at ≡ at)

  abbrev Told : (k at : ℕ) → Type 0
  Told k at = (b : ℕ) × IsGreatest (At k at) b

  nothing : (k at : ℕ) → ((n : ℕ) → At k at n → ⊥) → Told k at
  nothing k at none = (0, none_greatest (At k at) none)

  process_at : (k at n : ℕ) (p : Process) → slice_get (processes g) k ≡ Some p → (a : At k at n) → a.0.process ≡ p
  process_at k at n p there a = same_Some a.0.process p (sym a.0.there ∙ (ap (λ i. slice_get (processes g) i) a.1 ∙ there))

  text_at : (k at n : ℕ) (t : Text) → slice_get (numbered g) at ≡ Some t → (a : At k at n) → t ≡ record { owner = by_monitor a.0.monitor; routine = a.0.entry }
  text_at k at n t there a = same_Some t _ (sym there ∙ (ap (λ i. slice_get (numbered g) i) (sym a.2) ∙ a.0.declared))

  monitor_is : (i j : ℕ) → by_monitor i ≡ by_monitor j → j ≡ i
  monitor_is i j e = cc

  -- a process and an entry that are there
  module _ (k at : ℕ) (p : Process) (there : slice_get (processes g) k ≡ Some p) (lower : held < rank g k) (t : Text) (declared : slice_get (numbered g) at ≡ Some t) where
    of_entry : (j : ℕ) → t.owner ≡ by_monitor j → IsSomeAnd (ceiling g j) (λ c. c ≤ held) → process_comes_to g t k p ≡ true → Told k at
    of_entry j owner reaches comes =
        let same : t ≡ record { owner = by_monitor j; routine = t.routine } = ap (λ w. record { owner = w; routine = t.routine }) owner in
        let own : IsLowerStay g held (cap (stay_of_entry g t)) = record {
          number = k;
          process = p;
          there = there;
          lower = lower;
          monitor = j;
          reaches_up = reaches;
          entry = t.routine;
          at = at;
          declared = declared ∙ ap (λ (u : Text). Some u) same;
          called = ap (λ (u : Text). process_comes_to g u k p) (sym same) ∙ comes;
          stays = ap (λ (u : Text). cap (stay_of_entry g u)) same;
        } in
        (cap (stay_of_entry g t), one_greatest (At k at) (cap (stay_of_entry g t)) (own, refl, refl) (λ n a. a.0.stays ∙ sym (ap (λ (u : Text). cap (stay_of_entry g u)) (text_at k at n t declared a))))

    of_called : (j : ℕ) → t.owner ≡ by_monitor j → IsSomeAnd (ceiling g j) (λ c. c ≤ held) → (b : Bool) → process_comes_to g t k p ≡ b → Told k at
    of_called j owner reaches true is = of_entry j owner reaches is
    of_called j owner reaches false is = nothing k at (λ n a. false≢true (sym is ∙ comes n a)) where
      comes : (n : ℕ) → (a : At k at n) → process_comes_to g t k p ≡ true
      comes n a =
          ap (λ (u : Text). process_comes_to g u k p) (text_at k at n t declared a)
          ∙ (ap (λ (x : Process). process_comes_to g (record { owner = by_monitor a.0.monitor; routine = a.0.entry }) k x) (sym (process_at k at n p there a))
          ∙ (ap (λ i. process_comes_to g (record { owner = by_monitor a.0.monitor; routine = a.0.entry }) i a.0.process) (sym a.1) ∙ a.0.called))

    of_ceiling : (j : ℕ) → t.owner ≡ by_monitor j → (o : Option ℕ) → ceiling g j ≡ o → Told k at
    of_ceiling j owner None is = nothing k at (λ n a. subst (λ (o : Option ℕ). IsSomeAnd o (λ c. c ≤ held)) (ap (λ i. ceiling g i) (which n a) ∙ is) a.0.reaches_up) where
      which : (n : ℕ) → (a : At k at n) → a.0.monitor ≡ j
      which n a = monitor_is j a.0.monitor (sym owner ∙ ap (λ (u : Text). u.owner) (text_at k at n t declared a))
    of_ceiling j owner (Some c) is = elim (cases_lt held c) [
      | inl more ↦ nothing k at (λ n a. (let low : c ≤ held = subst (λ (o : Option ℕ). IsSomeAnd o (λ x. x ≤ held)) (ap (λ i. ceiling g i) (which n a) ∙ is) a.0.reaches_up in absurd (omega (arith, low, more))))
      | inr low ↦ of_called j owner (subst (λ (o : Option ℕ). IsSomeAnd o (λ x. x ≤ held)) (sym is) low) (process_comes_to g t k p) refl
    ] where
      which : (n : ℕ) → (a : At k at n) → a.0.monitor ≡ j
      which n a = monitor_is j a.0.monitor (sym owner ∙ ap (λ (u : Text). u.owner) (text_at k at n t declared a))

    of_owner : (o : Owner) → t.owner ≡ o → Told k at
    of_owner (by_monitor j) owner = of_ceiling j owner (ceiling g j) refl
    of_owner by_program owner = nothing k at (λ n a. (let clash : by_program ≡ by_monitor a.0.monitor = sym owner ∙ ap (λ (u : Text). u.owner) (text_at k at n t declared a) in cc))
    of_owner (by_process i) owner = nothing k at (λ n a. (let clash : by_process i ≡ by_monitor a.0.monitor = sym owner ∙ ap (λ (u : Text). u.owner) (text_at k at n t declared a) in cc))

  of_text : (k at : ℕ) (p : Process) → slice_get (processes g) k ≡ Some p → held < rank g k → (o : Option Text) → slice_get (numbered g) at ≡ o → Told k at
  of_text k at p there lower None is = nothing k at (λ n a. none-some _ (sym is ∙ (ap (λ i. slice_get (numbered g) i) (sym a.2) ∙ a.0.declared)))
  of_text k at p there lower (Some t) is = of_owner k at p there lower t is t.owner refl

  of_process : (k at : ℕ) (o : Option Process) → slice_get (processes g) k ≡ o → Told k at
  of_process k at None is = nothing k at (λ n a. none-some _ (sym is ∙ (ap (λ i. slice_get (processes g) i) (sym a.1) ∙ a.0.there)))
  of_process k at (Some p) is = elim (cases_lt held (rank g k)) [
    | inl lower ↦ of_text k at p is lower (slice_get (numbered g) at) refl
    | inr higher ↦ nothing k at (λ n a. (let low : held < rank g k = subst (λ i. held < rank g i) a.1 a.0.lower in absurd (omega (arith, low, higher))))
  ]

  pub block : (b : ℕ) × IsBlock g held b
  block =
      let all = below_greatest (λ k n. (at : ℕ) × (at < length (numbered g)) × At k at n) (λ k. below_greatest (At k) (λ at. of_process k at (slice_get (processes g) k) refl) (length (numbered g))) (length (processes g)) in (
        all.0,
        same_greatest _ (IsLowerStay g held) all.0 (λ n h. h.2.2.0)
            (λ n l. (l.number, slice_get_within (processes g) l.number l.process l.there, (l.at, slice_get_within (numbered g) l.at _ l.declared, (l, refl, refl))))
            all.1,
      )

-- ---- tasks

module _ (g : Program) (over : ℕ) where
  task_for : ℕ → Option Process → Task
  task_for k None = record { frame = 0; deadline = 0; run = 0; susp = 0; waits = 0; block = 0 }
  task_for k (Some p) = record {
    frame = frame_of g p.activation;
    deadline = deadline_of g p.activation;
    run = cap (with_dispatches over (cost_of_process g k p));
    susp = cap (cost_of_process g k p).susp;
    waits = cap (cost_of_process g k p).waits;
    block = (block g (rank g k)).0;
  }

  is_task : (k : ℕ) (p : Process) (o : Option Process) → o ≡ Some p → IsTaskOf g over k p (task_for k o)
  unfolding task_for
  is_task k p o e = subst (λ (x : Option Process). IsTaskOf g over k p (task_for k x)) (sym e) (record {
    frame = refl;
    deadline = refl;
    run = refl;
    susp = refl;
    waits = refl;
    block = (block g (rank g k)).1;
  })

  -- who has the rank of a level
  place : ℕ → ℕ
  place level = elim (cases_lt level (many g)) [ inl low ↦ (had g level low).0 | inr high ↦ 0 ]

  place_of_rank : (k : ℕ) → k < many g → place (rank g k - 1) ≡ k
  unfolding place
  place_of_rank k low = by (cases_lt (rank g k - 1) (many g)) where
    by : (c : (rank g k - 1 < many g) ⊎ (many g ≤ rank g k - 1)) → elim c [ inl below ↦ (had g (rank g k - 1) below).0 | inr high ↦ 0 ] ≡ k
    by (inl below) =
        let h = had g (rank g k - 1) below in
        rank_one g h.0 k h.1 low (omega (arith, h.2, rank_low g h.0, rank_low g k))
    by (inr high) = absurd (omega (arith, high, rank_high g k low, rank_low g k))

  tasks_from : (level n : ℕ) → List Task
  tasks_from level zero = []
  tasks_from level (suc n) = task_for (place level) (slice_get (processes g) (place level)) ∷ tasks_from (suc level) n

  from_long : (level n : ℕ) → length (tasks_from level n) ≡ n
  unfolding tasks_from
  from_long level zero = refl
  from_long level (suc n) = ap (λ k. suc k) (from_long (suc level) n)

  from_at : (level n i : ℕ) (d : Task) → i < n → slice_index_or (tasks_from level n) i d ≡ task_for (place (level + i)) (slice_get (processes g) (place (level + i)))
  unfolding tasks_from
  from_at level zero i d low = absurd (omega (arith, low))
  from_at level (suc n) zero d low = let z : level ≡ level + 0 = omega arith in ap (λ l. task_for (place l) (slice_get (processes g) (place l))) z
  from_at level (suc n) (suc i) d low =
      let z : suc level + i ≡ level + suc i = omega arith in
      from_at (suc level) n i d (omega (arith, low)) ∙ ap (λ l. task_for (place l) (slice_get (processes g) (place l))) z

  pub tasks : (ts : List Task) × AreTasksOf g over ts
  tasks = (tasks_from 0 (many g), record { one_each = from_long 0 (many g); each = λ k p at. each k p at }) where
    each : (k : ℕ) (p : Process) → slice_get (processes g) k ≡ Some p → IsTaskOf g over k p (task_at (tasks_from 0 (many g)) (rank g k - 1))
    each k p at =
        let low : k < many g = slice_get_within (processes g) k p at in
        let z : 0 + (rank g k - 1) ≡ rank g k - 1 = omega arith in
        let here : place (0 + (rank g k - 1)) ≡ k = ap (λ l. place l) z ∙ place_of_rank k low in
        subst (λ (t : Task). IsTaskOf g over k p t)
        (sym (from_at 0 (many g) (rank g k - 1) _ (omega (arith, rank_high g k low, rank_low g k)) ∙ ap (λ i. task_for i (slice_get (processes g) i)) here))
        (is_task k p (slice_get (processes g) k) at)

pub tasks_are_there : TasksAreThere
tasks_are_there g over = tasks g over
