-- The block of an image is that of the text.
use Rattle.std.specs.Prelude.{◌≡◌, ◌≤◌, ◌<◌, ◌&&◌, ℕ, Bool, true, false, cond, Option, Some, None, IsSomeAnd, length, nat_eq, nat_le, slice_get, unwrap_or}
use Rattle.std.proofs.Common.{inl, inr, refl, sym, ap, subst, ◌∙◌, arith}
use Rattle.std.proofs.lemmas.Bool.{false≢true, and_parts, and_from, eqb-true, eq-eqb, leb-true, le-leb}
use Rattle.std.proofs.lemmas.Option.{slice_get_within, none-some}
use Rattle.base.proofs.Lists.{some_at}
use Rattle.base.specs.Capped.{cap}
use Rattle.syntax_tree.specs.Plain.{Process, Program, Routine, Monitor}
use Rattle.source_semantics.specs.Names.{processes, monitors}
use Rattle.source_semantics.specs.Ranks.{rank, ceiling}
use Rattle.machine_semantics.specs.Image as image
use Rattle.valid_image.specs.Tables.{stay_of_process}
use Rattle.valid_image.specs.Times.{ticks_of, longest_blocking, needed_block}
use Rattle.valid_image_law.proofs.Ranking.{stay_blocks, process_blocks}
use Rattle.code_spec.specs.Layout.{Owner, by_program, by_process, by_monitor}
use Rattle.code_spec.specs.Numbering.{Text, entry_of, numbered, number_of}
use Rattle.code_spec.specs.Compiled.{IsCodeOf}
use Rattle.code_cost_spec.specs.Levels.{stay_of_entry}
use Rattle.code_measures.specs.Declared.{Declares}
use Rattle.code_measures.specs.Whole.{HasRanks}
use Rattle.code_lifting.proofs.Words.{same_length}
use Rattle.static_semantics.specs.WellFormed.{IsWellFormed}
use Rattle.codegen_law.specs.Ruled.{NamesApart}
use Rattle.codegen_law.specs.Numbered.{AreNumbered}
use Rattle.codegen_law.proofs.NameNumbers.{text_named, IsText}
use Rattle.codegen_law.proofs.NumberedLemmas.{text_listed, listed_text}
use Rattle.codegen_law.proofs.SoundLemmas.{are_numbered}
use Rattle.sched_program.specs.Tasks.{process_comes_to, IsLowerStay, IsBlock}
use Rattle.built_tasks_law.specs.Calls.{RoutinesCallTheirTexts, ProcessesCallTheirTexts}
use Rattle.built_tasks_law.specs.Ranks.{RanksAreOfTheMeaning, CeilingsAreOfTheMeaning}
use Rattle.built_tasks_law.specs.Touches.{is_entry_of, process_comes_to_one}
use Rattle.built_tasks_law.proofs.Rows.{AreAlike, own_is, stay_comes}
use Rattle.built_tasks_law.proofs.Whole.{as_many_processes}
use Rattle.built_tasks_law.specs.Tasks.{BlocksAreOfTheText}
use Rattle.built_tasks_law.proofs.Comes.{Goal, process_goal, process_comes}
use Rattle.built_tasks_law.proofs.Origins.{at_least, longer_at_least, Origin, origin}

-- an entry of monitor j that stays so long at least
abbrev pub stays_long : Program → (j s : ℕ) → Text → Bool
stays_long g j s t = is_entry_of j t.owner && nat_le s (cap (stay_of_entry g t))

owner_of_entry : (j : ℕ) (o : Owner) → is_entry_of j o ≡ true → o ≡ by_monitor j
owner_of_entry j by_program h = absurd (false≢true h)
owner_of_entry j (by_process k) h = absurd (false≢true h)
owner_of_entry j (by_monitor m) h = ap (λ n. by_monitor n) (eqb-true m j h)

-- the monitor of an entry is there
home_there : (g : Program) (j : ℕ) (t : Text) → t.owner ≡ by_monitor j → IsText g t → j < length (monitors g)
home_there g j t owner text = by (slice_get (monitors g) j) refl (sym (ap (λ o. text_named g o t.routine.name) owner) ∙ text) where
  by : (o : Option Monitor) → slice_get (monitors g) j ≡ o → entry_of j (slice_get (monitors g) j) t.routine.name ≡ Some t → j < length (monitors g)
  by None is h = absurd (none-some t (sym (ap (λ x. entry_of j x t.routine.name) is) ∙ h))
  by (Some k) is h = slice_get_within (monitors g) j k is

module _ (g : Program) (m : image.Image) (form : IsWellFormed g) (names : NamesApart g) (is : IsCodeOf g m) (declares : Declares g m) (has : HasRanks m)
    (routines : RoutinesCallTheirTexts) (bodies : ProcessesCallTheirTexts) (ranks : RanksAreOfTheMeaning) (ceilings : CeilingsAreOfTheMeaning) where
  -- ---- stays

  stays_alike : (j s : ℕ) → AreAlike g m j (at_least s) (stays_long g j s)
  stays_alike j s = record {
    nothing = refl;
    longer = longer_at_least s;
    owns = λ r t x at there own. (
        ap (λ o. at_least s o) (own_is g j t x own)
        ∙ by (is_entry_of j t.owner) x.stay (cap (stay_of_entry g t)) (declares.routines r t x at there).stay);
  } where
    by : (b : Bool) (n l : ℕ) → n ≡ l → at_least s (cond b (Some n) None) ≡ (b && nat_le s l)
    by true n l e = ap (λ k. nat_le s k) e
    by false n l e = refl

  long_stays : (s j k : ℕ) (p : Process) → slice_get (processes g) k ≡ Some p → at_least s (stay_of_process m k j) ≡ process_comes_to_one g (stays_long g j s) k p
  long_stays s j k p at = stay_comes g m form names is routines bodies j (at_least s) (stays_long g j s) (stays_alike j s) k p at

  numbers : AreNumbered g
  numbers = are_numbered g form names

  -- ---- no lower stay is longer

  many : length m.processes ≡ length (processes g)
  many = as_many_processes g m.code 0 is.between (length m.code) (processes g) m.processes is.process_code

  ticks_enough : (n : ℕ) (o : Option ℕ) → at_least n o ≡ true → n ≤ ticks_of o
  ticks_enough n None h = absurd (false≢true h)
  ticks_enough n (Some l) h = leb-true n l h

  up : (o : Option ℕ) (held : ℕ) → IsSomeAnd o (λ c. c ≤ held) → unwrap_or o 65535 ≤ held
  up None held h = absurd h
  up (Some c) held h = h

  rank_same : (k : ℕ) (x : image.Process) → slice_get m.processes k ≡ Some x → x.rank ≡ rank g k
  rank_same k x at = has.ranks k x at ∙ ranks g m is k

  ceiling_same : (j : ℕ) (y : image.Monitor) → slice_get m.monitors j ≡ Some y → y.ceiling ≡ unwrap_or (ceiling g j) 65535
  ceiling_same j y at = has.ceilings j y at ∙ ceilings g m form names is j

  no_longer : (held n : ℕ) → IsLowerStay g held n → n ≤ needed_block m held
  no_longer held n l =
      let goal : Text = record { owner = by_monitor l.monitor; routine = l.entry } in
      let text : IsText g goal = listed_text g names.differ goal (numbers.listed l.at goal l.declared) in
      let x = some_at m.processes l.number (omega (arith, many, slice_get_within (processes g) l.number l.process l.there)) in
      let homes : length m.monitors ≡ length (monitors g) = same_length g 0 (monitors g) m.monitors is.monitor_words in
      let y = some_at m.monitors l.monitor (omega (arith, homes, home_there g l.monitor goal refl text)) in
      let long : stays_long g l.monitor n goal ≡ true =
      and_from (nat_eq l.monitor l.monitor) (nat_le n (cap (stay_of_entry g goal))) (eq-eqb l.monitor l.monitor refl) (le-leb n (cap (stay_of_entry g goal)) (omega (arith, l.stays))) in
      let stays : at_least n (stay_of_process m l.number l.monitor) ≡ true =
      long_stays n l.monitor l.number l.process l.there ∙ process_comes g names (stays_long g l.monitor n) l.number l.process goal text long l.called in
      let reaches : y.0.ceiling ≤ held = omega (arith, ceiling_same l.monitor y.0 y.1, up (ceiling g l.monitor) held l.reaches_up) in
      let one : ticks_of (stay_of_process m l.number l.monitor) ≤ longest_blocking m held l.number (length m.monitors) =
      stay_blocks m held l.number (length m.monitors) l.monitor y.0 (slice_get_within m.monitors l.monitor y.0 y.1) y.1 reaches in
      let two : longest_blocking m held l.number (length m.monitors) ≤ needed_block m held =
      process_blocks m held (length m.processes) l.number x.0 (slice_get_within m.processes l.number x.0 x.1) x.1 (omega (arith, l.lower, rank_same l.number x.0 x.1)) in
      omega (arith, ticks_enough n (stay_of_process m l.number l.monitor) stays, one, two)

  -- ---- one is as long

  down : (o : Option ℕ) (held : ℕ) → held < 65535 → unwrap_or o 65535 ≤ held → IsSomeAnd o (λ c. c ≤ held)
  down None held low h = absurd (omega (arith, low, h))
  down (Some c) held low h = h

  enough : (n : ℕ) → nat_le n n ≡ true
  enough n = le-leb n n (omega arith)

  -- an entry that stays as long as the block at least stays no longer
  of_entry : (held k : ℕ) (p : Process) → slice_get (processes g) k ≡ Some p → held < rank g k → (j : ℕ) → IsSomeAnd (ceiling g j) (λ c. c ≤ held) → (at : ℕ) (r : Routine)
      → slice_get (numbered g) at ≡ Some (record { owner = by_monitor j; routine = r })
      → process_comes_to g (record { owner = by_monitor j; routine = r }) k p ≡ true
      → needed_block m held ≤ cap (stay_of_entry g (record { owner = by_monitor j; routine = r })) → IsLowerStay g held (needed_block m held)
  of_entry held k p there lower j reaches at r declared called long =
      let stay : ℕ = cap (stay_of_entry g (record { owner = by_monitor j; routine = r })) in
      let own : IsLowerStay g held stay = record {
        number = k;
        process = p;
        there = there;
        lower = lower;
        monitor = j;
        reaches_up = reaches;
        entry = r;
        at = at;
        declared = declared;
        called = called;
        stays = refl;
      } in
      subst (λ (n : ℕ). IsLowerStay g held n) (omega (arith, no_longer held stay own, long)) own

  of_text : (held k : ℕ) (p : Process) → slice_get (processes g) k ≡ Some p → held < rank g k → (j : ℕ) → IsSomeAnd (ceiling g j) (λ c. c ≤ held) → (goal : Text) → IsText g goal
      → goal.owner ≡ by_monitor j → process_comes_to g goal k p ≡ true → needed_block m held ≤ cap (stay_of_entry g goal) → IsLowerStay g held (needed_block m held)
  of_text held k p there lower j reaches goal text owner called long =
      let same : goal ≡ record { owner = by_monitor j; routine = goal.routine } = ap (λ w. record { owner = w; routine = goal.routine }) owner in
      of_entry held k p there lower j reaches (number_of g goal) goal.routine
      (numbers.there goal (text_listed g names.differ goal text) ∙ ap (λ (t : Text). Some t) same)
      (ap (λ (t : Text). process_comes_to g t k p) (sym same) ∙ called)
      (omega (arith, long, ap (λ (t : Text). cap (stay_of_entry g t)) same))

  of_goal : (held k : ℕ) (p : Process) → slice_get (processes g) k ≡ Some p → held < rank g k → (j : ℕ) → IsSomeAnd (ceiling g j) (λ c. c ≤ held)
      → Goal g names (stays_long g j (needed_block m held)) (λ goal. process_comes_to g goal k p ≡ true) → IsLowerStay g held (needed_block m held)
  of_goal held k p there lower j reaches e =
      let parts = and_parts (is_entry_of j e.goal.owner) (nat_le (needed_block m held) (cap (stay_of_entry g e.goal))) e.passes in
      of_text held k p there lower j reaches e.goal e.text (owner_of_entry j e.goal.owner parts.0) e.comes (leb-true (needed_block m held) (cap (stay_of_entry g e.goal)) parts.1)

  as_long : (held : ℕ) → held < 65535 → Origin m held (needed_block m held) → IsLowerStay g held (needed_block m held)
  as_long held low o =
      let p = some_at (processes g) o.k (omega (arith, many, slice_get_within m.processes o.k o.x o.at)) in
      let comes : process_comes_to_one g (stays_long g o.stays.j (needed_block m held)) o.k p.0 ≡ true =
      sym (long_stays (needed_block m held) o.stays.j o.k p.0 p.1) ∙ (ap (λ (s : Option ℕ). at_least (needed_block m held) s) o.stays.stay ∙ enough (needed_block m held)) in
      of_goal held o.k p.0 p.1 (omega (arith, o.lower, rank_same o.k o.x o.at)) o.stays.j
      (down (ceiling g o.stays.j) held low (omega (arith, ceiling_same o.stays.j o.stays.y o.stays.there, o.stays.reaches)))
      (process_goal g names (stays_long g o.stays.j (needed_block m held)) o.k p.0 comes)

  block_is : (held : ℕ) → held < 65535 → IsBlock g held (needed_block m held)
  block_is held low = record {
    most = λ n l. no_longer held n l;
    one = elim (origin m held (length m.processes)) [ inl none ↦ inl none | inr some ↦ inr (as_long held low some) ];
  }

pub blocks_are : RoutinesCallTheirTexts → ProcessesCallTheirTexts → RanksAreOfTheMeaning → CeilingsAreOfTheMeaning → BlocksAreOfTheText
blocks_are routines bodies ranks ceilings g m held form names is declares has low = block_is g m form names is declares has routines bodies ranks ceilings held low
