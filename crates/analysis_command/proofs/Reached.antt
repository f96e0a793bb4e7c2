-- The first place that the code of a process comes to is that of the first goal that its text comes
-- to.
use Rattle.std.specs.Prelude.{◌≡◌, ◌≤◌, ◌<◌, ◌+◌, ◌&&◌, ◌||◌, ℕ, zero, suc, Bool, true, false, cond, List, [], ◌∷◌, Option, Some, None, length, map, min, nat_eq, nat_le, slice_get, slice_index, take, unwrap_or}
use Rattle.std.proofs.Common.{refl, sym, ap, ◌∙◌, arith}
use Rattle.std.proofs.lemmas.Bool.{leb-true, leb-false, le-leb, lt-leb}
use Rattle.std.proofs.lemmas.List.{get_or-take}
use Rattle.std.proofs.lemmas.Option.{get_or_from_slice_get, none-some, slice_get_within}
use Rattle.base.proofs.Lists.{map_get, some_at}
use Rattle.base.specs.Capped.{cap}
use Rattle.syntax_tree.specs.Plain.{Monitor, Process, Program}
use Rattle.source_semantics.specs.Names.{monitors, processes, routine_count}
use Rattle.source_semantics.specs.Ranks.{ceiling}
use Rattle.machine_semantics.specs.Image as image
use Rattle.valid_image.specs.Pieces.{called}
use Rattle.valid_image.specs.Tables.{some_of}
use Rattle.loader_code.specs.Owned.{AreCalls}
use Rattle.loader_code.proofs.Sweeping.{pieces_long}
use Rattle.code_spec.specs.Layout.{Owner, by_program, by_process, by_monitor}
use Rattle.code_spec.specs.Numbering.{Text, entry_of, called_text, routine_calls, numbered, number_of}
use Rattle.code_spec.specs.Compiled.{kind_number, owner_number, IsRoutine}
use Rattle.code_cost_spec.specs.Levels.{stay_of_entry}
use Rattle.code_lifting.proofs.Words.{same_length}
use Rattle.code_measures.specs.Declared.{IsBelow}
use Rattle.code_measures.proofs.Rows.{stands}
use Rattle.codegen_law.proofs.NameNumbers.{IsText, text_named}
use Rattle.codegen_law.proofs.NumberedLemmas.{listed_text}
use Rattle.codegen_law.proofs.SoundLemmas.{are_numbered, below, below_all, well_formed_programs_are_sound}
use Rattle.sched_program.specs.Tasks.{some_called, process_calls}
use Rattle.sched_program.specs.Blockers.{place_in}
use Rattle.built_tasks_law.specs.Calls.{by_number, RoutinesCallTheirTexts, ProcessesCallTheirTexts}
use Rattle.built_tasks_law.specs.Ranks.{CeilingsAreOfTheMeaning}
use Rattle.built_tasks_law.specs.Touches.{comes_to_one, process_comes_to_one}
use Rattle.built_tasks_law.proofs.Lists.{called_alike}
use Rattle.built_tasks_law.proofs.Tests.{or_both, or_false}
use Rattle.code_names.specs.Goals.{earlier, place_at, earliest_of, calls_at, AreFirstPlaces}
use Rattle.analysis_command.specs.Goals.{low_ceiling, goal_of, is_goal, AreGoals}
use Rattle.analysis_command.specs.Graphs.{IsImageOfText}

-- ---- goals, as the text has them

abbrev pub ceiling_low : (held : ℕ) → Option ℕ → Bool
ceiling_low held None = false
ceiling_low held (Some c) = nat_le c held

abbrev pub owner_low : Program → (held : ℕ) → Owner → Bool
owner_low g held by_program = false
owner_low g held (by_process k) = false
owner_low g held (by_monitor j) = ceiling_low held (ceiling g j)

abbrev pub text_goal : Program → (held block : ℕ) → Text → Bool
text_goal g held block t = owner_low g held t.owner && nat_eq (cap (stay_of_entry g t)) block

-- a goal that stands at this place or before
abbrev pub goal_within : Program → (held block s : ℕ) → Text → Bool
goal_within g held block s t = text_goal g held block t && nat_le (place_in g t) s

-- ---- a place that is no later

abbrev pub at_most : ℕ → Option ℕ → Bool
at_most s None = false
at_most s (Some p) = nat_le p s

min_at_most : (s a b : ℕ) → nat_le (min a b) s ≡ nat_le a s || nat_le b s
min_at_most s a b = by (nat_le a s) refl (nat_le b s) refl where
  by : (x : Bool) → nat_le a s ≡ x → (y : Bool) → nat_le b s ≡ y → nat_le (min a b) s ≡ x || y
  by true e y h = le-leb (min a b) s (let l : a ≤ s = leb-true a s e in omega (arith, l))
  by false e true h = le-leb (min a b) s (let l : b ≤ s = leb-true b s h in omega (arith, l))
  by false e false h = lt-leb (min a b) s (let l : s < a = leb-false a s e in let k : s < b = leb-false b s h in omega (arith, l, k))

earlier_at_most : (s : ℕ) (a b : Option ℕ) → at_most s (earlier a b) ≡ at_most s a || at_most s b
earlier_at_most s None b = refl
earlier_at_most s (Some a) None = sym (or_false (nat_le a s))
earlier_at_most s (Some a) (Some b) = min_at_most s a b

earliest_at_most : (s : ℕ) (row : List (Option ℕ)) (rs : List ℕ) → at_most s (earliest_of row rs) ≡ some_of (λ r. at_most s (place_at row r)) rs
earliest_at_most s row [] = refl
earliest_at_most s row (r ∷ rs) = earlier_at_most s (place_at row r) (earliest_of row rs) ∙ ap (λ b. at_most s (place_at row r) || b) (earliest_at_most s row rs)

and_swap : (a b : Bool) → (a && b) ≡ (b && a)
and_swap true true = refl
and_swap true false = refl
and_swap false true = refl
and_swap false false = refl

-- the monitor of an entry is there
pub home_there : (g : Program) (j : ℕ) (t : Text) → t.owner ≡ by_monitor j → IsText g t → j < length (monitors g)
home_there g j t owner text = by (slice_get (monitors g) j) refl (sym (ap (λ o. text_named g o t.routine.name) owner) ∙ text) where
  by : (o : Option Monitor) → slice_get (monitors g) j ≡ o → entry_of j (slice_get (monitors g) j) t.routine.name ≡ Some t → j < length (monitors g)
  by None is h = absurd (none-some t (sym (ap (λ x. entry_of j x t.routine.name) is) ∙ h))
  by (Some k) is h = slice_get_within (monitors g) j k is

-- ---- goals of the image

module _ (g : Program) (m : image.Image) (of : IsImageOfText g m) (ceilings : CeilingsAreOfTheMeaning) (held block : ℕ) (low_held : held < 65535) where
  ceiling_is : (j : ℕ) → j < length (monitors g) → low_ceiling (slice_get m.monitors j) held ≡ ceiling_low held (ceiling g j)
  ceiling_is j low =
      let homes : length m.monitors ≡ length (monitors g) = same_length g 0 (monitors g) m.monitors of.code.monitor_words in
      let y = some_at m.monitors j (omega (arith, homes, low)) in
      let same : y.0.ceiling ≡ unwrap_or (ceiling g j) 65535 = of.ranks.ceilings j y.0 y.1 ∙ ceilings g m of.form of.names of.code j in
      ap (λ o. low_ceiling o held) y.1 ∙ (ap (λ c. nat_le c held) same ∙ by (ceiling g j))
    where
      by : (o : Option ℕ) → nat_le (unwrap_or o 65535) held ≡ ceiling_low held o
      by None = lt-leb 65535 held low_held
      by (Some c) = refl

  goal_same : (r : ℕ) (t : Text) (x : image.Routine) → slice_get (numbered g) r ≡ Some t → slice_get m.routines r ≡ Some x → IsRoutine g t x → goal_of m held block x ≡ text_goal g held block t
  goal_same r t x at there own = by t.owner refl where
    no_entry : (o : Owner) → t.owner ≡ o → nat_eq (kind_number o) 2 ≡ false → owner_low g held o ≡ false → goal_of m held block x ≡ text_goal g held block t
    no_entry o e kind low =
        ap (λ n. nat_eq n 2 && (nat_eq x.stay block && low_ceiling (slice_get m.monitors x.owner) held)) (own.kind ∙ ap (λ w. kind_number w) e)
        ∙ (ap (λ b. b && (nat_eq x.stay block && low_ceiling (slice_get m.monitors x.owner) held)) kind
        ∙ (sym (ap (λ b. b && nat_eq (cap (stay_of_entry g t)) block) low) ∙ sym (ap (λ w. owner_low g held w && nat_eq (cap (stay_of_entry g t)) block) e)))

    by : (o : Owner) → t.owner ≡ o → goal_of m held block x ≡ text_goal g held block t
    by by_program e = no_entry by_program e refl refl
    by (by_process k) e = no_entry (by_process k) e refl refl
    by (by_monitor j) e =
        let there_j : j < length (monitors g) = home_there g j t e (listed_text g of.names.differ t ((are_numbered g of.form of.names).listed r t at)) in
        ap (λ n. nat_eq n 2 && (nat_eq x.stay block && low_ceiling (slice_get m.monitors x.owner) held)) (own.kind ∙ ap (λ w. kind_number w) e)
        ∙ (ap (λ n. nat_eq n block && low_ceiling (slice_get m.monitors x.owner) held) (of.declares.routines r t x at there).stay
        ∙ (ap (λ n. nat_eq (cap (stay_of_entry g t)) block && low_ceiling (slice_get m.monitors n) held) (own.owner ∙ ap (λ w. owner_number w) e)
        ∙ (ap (λ b. nat_eq (cap (stay_of_entry g t)) block && b) (ceiling_is j there_j)
        ∙ (and_swap (nat_eq (cap (stay_of_entry g t)) block) (ceiling_low held (ceiling g j))
        ∙ sym (ap (λ w. owner_low g held w && nat_eq (cap (stay_of_entry g t)) block) e)))))

  -- ---- rows

  module _ (routines : RoutinesCallTheirTexts) (bodies : ProcessesCallTheirTexts) (places : List ℕ) (are_places : places ≡ map (place_in g) (numbered g)) (goals : List (Option ℕ)) (are_goals : AreGoals m places held block goals)
      (calls : List (List ℕ)) (are_calls : AreCalls m calls) (row : List (Option ℕ)) (are_first : AreFirstPlaces goals calls (length goals) row) (s : ℕ) where
    goal_row : (r : ℕ) (t : Text) → slice_get (numbered g) r ≡ Some t → at_most s (place_at goals r) ≡ goal_within g held block s t
    goal_row r t at =
        let x = stands g m of.code r t at in
        let place : slice_index places r ≡ place_in g t = ap (λ ps. slice_index ps r) are_places ∙ get_or_from_slice_get (map (place_in g) (numbered g)) r (place_in g t) 0 (map_get (place_in g) (numbered g) r t at) in
        let goal : is_goal m held block (slice_get m.routines r) ≡ text_goal g held block t = ap (λ o. is_goal m held block o) x.there ∙ goal_same r t x.x at x.there x.is_r in
        ap (λ o. at_most s o) (are_goals.each r (slice_get_within m.routines r x.x x.there))
        ∙ (ap (λ b. at_most s (cond b (Some (slice_index places r)) None)) goal
        ∙ (ap (λ p. at_most s (cond (text_goal g held block t) (Some p) None)) place ∙ by (text_goal g held block t)))
      where
        by : (b : Bool) → at_most s (cond b (Some (place_in g t)) None) ≡ (b && nat_le (place_in g t) s)
        by true = refl
        by false = refl

    -- what a piece calls
    calls_are : (k : ℕ) → k < length m.routines + length m.processes → calls_at calls k ≡ called m k
    calls_are k low = are_calls.each k (omega (arith, low, are_calls.one_each, pieces_long m))

    row_says : (r : ℕ) (t : Text) → slice_get (numbered g) r ≡ Some t
        → at_most s (place_at row r) ≡ goal_within g held block s t || some_called (by_number g (λ q. at_most s (place_at (take r row) q))) (called_text g t.owner) (routine_calls t.routine)
    row_says r t at =
        let x = stands g m of.code r t at in
        let low : r < length m.routines = slice_get_within m.routines r x.x x.there in
        ap (λ o. at_most s o) (are_first.each r (omega (arith, low, are_goals.one_each)))
        ∙ (earlier_at_most s (place_at goals r) (earliest_of (take r row) (calls_at calls r))
        ∙ or_both (goal_row r t at)
        (earliest_at_most s (take r row) (calls_at calls r)
        ∙ (ap (λ rs. some_of (λ q. at_most s (place_at (take r row) q)) rs) (calls_are r (omega (arith, low)))
        ∙ routines g m of.code (well_formed_programs_are_sound g of.form of.names) (λ q. at_most s (place_at (take r row) q)) r t at)))

    row_comes : (limit r : ℕ) (t : Text) (n : ℕ) → r < limit → slice_get (numbered g) r ≡ Some t → r < n → at_most s (place_at row r) ≡ comes_to_one n g (goal_within g held block s) t
    unfolding comes_to_one
    row_comes zero r t n low at deep = absurd (omega (arith, low))
    row_comes (suc limit) r t zero low at deep = absurd (omega (arith, deep))
    row_comes (suc limit) r t (suc n) low at deep =
        row_says r t at
        ∙ ap (λ b. goal_within g held block s t || b)
        (called_alike (by_number g (λ q. at_most s (place_at (take r row) q))) (comes_to_one n g (goal_within g held block s)) (called_text g t.owner) (routine_calls t.routine)
        (λ c u i e. callee u (below g of.form of.names r t u at (record { call = c; listed = i; means = e })) (λ less there. row_comes limit (number_of g u) u n (omega (arith, less, low)) there (omega (arith, less, deep)))))
      where
        callee : (u : Text) → IsBelow g r u → (number_of g u < r → slice_get (numbered g) (number_of g u) ≡ Some u → at_most s (place_at row (number_of g u)) ≡ comes_to_one n g (goal_within g held block s) u)
            → at_most s (place_at (take r row) (number_of g u)) ≡ comes_to_one n g (goal_within g held block s) u
        callee u b rest = ap (λ o. at_most s o) (get_or-take r row (number_of g u) None b.low) ∙ rest b.low b.there

    -- the first place that a process comes to
    pub comes : (k : ℕ) (p : Process) → slice_get (processes g) k ≡ Some p → k < length m.processes
        → at_most s (earliest_of row (calls_at calls (length m.routines + k))) ≡ process_comes_to_one g (goal_within g held block s) k p
    comes k p at low =
        earliest_at_most s row (calls_at calls (length m.routines + k))
        ∙ (ap (λ rs. some_of (λ q. at_most s (place_at row q)) rs) (calls_are (length m.routines + k) (omega (arith, low)))
        ∙ (bodies g m of.code (well_formed_programs_are_sound g of.form of.names) (λ q. at_most s (place_at row q)) k p at
        ∙ called_alike (by_number g (λ q. at_most s (place_at row q))) (comes_to_one (routine_count g) g (goal_within g held block s)) (called_text g (by_process k)) (process_calls p)
        (λ c u i e. all u (below_all g of.form of.names (by_process k) c u e))))
      where
        all : (u : Text) → IsBelow g (length (numbered g)) u → at_most s (place_at row (number_of g u)) ≡ comes_to_one (routine_count g) g (goal_within g held block s) u
        all u b =
            let few : length (numbered g) ≤ routine_count g = (well_formed_programs_are_sound g of.form of.names).few in
            row_comes (suc (number_of g u)) (number_of g u) u (routine_count g) (omega arith) b.there (omega (arith, few, b.low))
