-- The code of a process stays in a monitor as the entries do that its text comes to.
use Rattle.std.specs.Prelude.{◌≡◌, ◌<◌, ◌≤◌, ◌||◌, ◌&&◌, ℕ, zero, suc, Bool, true, false, cond, List, [], ◌∷◌, Option, Some, None, length, nat_eq, slice_get, take}
use Rattle.std.proofs.Common.{refl, ap, ◌∙◌, arith}
use Rattle.std.proofs.lemmas.Option.{slice_get_within}
use Rattle.base.proofs.Lists.{take_get}
use Rattle.syntax_tree.specs.Plain.{Process, Program}
use Rattle.source_semantics.specs.Names.{processes, routine_count}
use Rattle.machine_semantics.specs.Image as image
use Rattle.valid_image.specs.Pieces.{called, piece_number}
use Rattle.valid_image.specs.Tables.{Reach, stays_of, stays_at, some_of, longer_stay, longest_of, own_stay, reach_of, reach, stay_of_process}
use Rattle.valid_image.specs.Times.{is_some}
use Rattle.code_spec.specs.Layout.{Owner, by_program, by_process, by_monitor}
use Rattle.code_spec.specs.Numbering.{Text, called_text, routine_calls, numbered, number_of}
use Rattle.code_spec.specs.Compiled.{kind_number, owner_number, IsRoutine, IsCodeOf}
use Rattle.static_semantics.specs.WellFormed.{IsWellFormed}
use Rattle.codegen_law.specs.Ruled.{NamesApart}
use Rattle.code_measures.specs.Declared.{IsBelow}
use Rattle.code_measures.proofs.Firsts.{row_is, rows_before}
use Rattle.code_measures.proofs.Rows.{stands}
use Rattle.codegen_law.proofs.SoundLemmas.{below, below_all, well_formed_programs_are_sound}
use Rattle.sched_program.specs.Tasks.{some_called, process_calls}
use Rattle.built_tasks_law.specs.Calls.{by_number, RoutinesCallTheirTexts, ProcessesCallTheirTexts}
use Rattle.built_tasks_law.proofs.Tests.{or_both}
use Rattle.built_tasks_law.specs.Touches.{is_entry_of, comes_to_one, process_comes_to_one, CodeEntersWhatTextsTouch}
use Rattle.built_tasks_law.proofs.Lists.{called_alike, longer_some}

-- an entry stays in its own monitor
some_where : (b : Bool) (n : ℕ) → is_some (cond b (Some n) None) ≡ b
some_where true n = refl
some_where false n = refl

entry_numbers : (j : ℕ) (o : Owner) → (nat_eq (kind_number o) 2 && nat_eq (owner_number o) j) ≡ is_entry_of j o
entry_numbers j by_program = refl
entry_numbers j (by_process k) = refl
entry_numbers j (by_monitor m) = refl

pub own_is : (g : Program) (j : ℕ) (t : Text) (x : image.Routine) → IsRoutine g t x → own_stay x j ≡ cond (is_entry_of j t.owner) (Some x.stay) None
own_is g j t x is =
    ap (λ b. cond b (Some x.stay) None)
    (ap (λ k. nat_eq k 2 && nat_eq x.owner j) is.kind ∙ (ap (λ k. nat_eq (kind_number t.owner) 2 && nat_eq k j) is.owner ∙ entry_numbers j t.owner))

own_some : (g : Program) (j : ℕ) (t : Text) (x : image.Routine) → IsRoutine g t x → is_some (own_stay x j) ≡ is_entry_of j t.owner
own_some g j t x is = ap (λ (o : Option ℕ). is_some o) (own_is g j t x is) ∙ some_where (is_entry_of j t.owner) x.stay

-- A test on stays that is passed by the longer of two where one of them passes it, and a test on
-- texts that says which entries have such a stay of their own.
pub record AreAlike (g : Program) (m : image.Image) (j : ℕ) (good : Option ℕ → Bool) (own : Text → Bool) : Type 0 where
  pub nothing : good None ≡ false
  pub longer : (a b : Option ℕ) → good (longer_stay a b) ≡ good a || good b
  pub owns : (r : ℕ) (t : Text) (x : image.Routine) → slice_get (numbered g) r ≡ Some t → slice_get m.routines r ≡ Some x → IsRoutine g t x → good (own_stay x j) ≡ own t

module _ (g : Program) (m : image.Image) (form : IsWellFormed g) (names : NamesApart g) (is : IsCodeOf g m) (routines : RoutinesCallTheirTexts) (bodies : ProcessesCallTheirTexts) (j : ℕ)
    (good : Option ℕ → Bool) (own : Text → Bool) (alike : AreAlike g m j good own) where
  longest_good : (stay : ℕ → Option ℕ) (rs : List ℕ) → good (longest_of stay rs) ≡ some_of (λ r. good (stay r)) rs
  longest_good stay [] = alike.nothing
  longest_good stay (r ∷ rs) = alike.longer (stay r) (longest_of stay rs) ∙ ap (λ b. good (stay r) || b) (longest_good stay rs)

  -- what a row says
  row_says : (r : ℕ) (t : Text) → slice_get (numbered g) r ≡ Some t
      → good (stays_at (reach m) j r) ≡ own t || some_called (by_number g (λ q. good (stays_at (take r (reach m)) j q))) (called_text g t.owner) (routine_calls t.routine)
  row_says r t at =
      let s = stands g m is r t at in
      let done : List Reach = take r (reach m) in
      let many : length (take r (reach m)) ≡ r = rows_before (reach_of m) m.routines r (omega (arith, slice_get_within m.routines r s.x s.there)) in
      ap (λ o. good (stays_of j o)) (row_is (reach_of m) m.routines r s.x s.there)
      ∙ (alike.longer (own_stay s.x j) (longest_of (stays_at done j) (called m (length done)))
      ∙ or_both (alike.owns r t s.x at s.there s.is_r)
      (longest_good (stays_at done j) (called m (length done))
      ∙ (ap (λ n. some_of (λ q. good (stays_at done j q)) (called m n)) many
      ∙ routines g m is (well_formed_programs_are_sound g form names) (λ q. good (stays_at done j q)) r t at)))

  -- and those of a process say the same, where all routines do
  row_comes : (limit r : ℕ) (t : Text) (n : ℕ) → r < limit → slice_get (numbered g) r ≡ Some t → r < n → good (stays_at (reach m) j r) ≡ comes_to_one n g own t
  unfolding comes_to_one
  row_comes zero r t n low at deep = absurd (omega (arith, low))
  row_comes (suc limit) r t zero low at deep = absurd (omega (arith, deep))
  row_comes (suc limit) r t (suc n) low at deep =
      row_says r t at
      ∙ ap (λ b. own t || b)
      (called_alike (by_number g (λ q. good (stays_at (take r (reach m)) j q))) (comes_to_one n g own) (called_text g t.owner) (routine_calls t.routine)
      (λ c u i e. callee u (below g form names r t u at (record { call = c; listed = i; means = e })) (λ less there. row_comes limit (number_of g u) u n (omega (arith, less, low)) there (omega (arith, less, deep)))))
    where
      callee : (u : Text) → IsBelow g r u → (number_of g u < r → slice_get (numbered g) (number_of g u) ≡ Some u → good (stays_at (reach m) j (number_of g u)) ≡ comes_to_one n g own u)
          → good (stays_at (take r (reach m)) j (number_of g u)) ≡ comes_to_one n g own u
      callee u b rest = ap (λ o. good (stays_of j o)) (take_get r (number_of g u) (reach m) b.low) ∙ rest b.low b.there

  pub stay_comes : (k : ℕ) (p : Process) → slice_get (processes g) k ≡ Some p → good (stay_of_process m k j) ≡ process_comes_to_one g own k p
  stay_comes k p at =
      longest_good (stays_at (reach m) j) (called m (piece_number m k))
      ∙ (bodies g m is (well_formed_programs_are_sound g form names) (λ q. good (stays_at (reach m) j q)) k p at
      ∙ called_alike (by_number g (λ q. good (stays_at (reach m) j q))) (comes_to_one (routine_count g) g own) (called_text g (by_process k)) (process_calls p)
      (λ c u i e. all u (below_all g form names (by_process k) c u e)))
    where
      all : (u : Text) → IsBelow g (length (numbered g)) u → good (stays_at (reach m) j (number_of g u)) ≡ comes_to_one (routine_count g) g own u
      all u b =
          let few : length (numbered g) ≤ routine_count g = (well_formed_programs_are_sound g form names).few in
          row_comes (suc (number_of g u)) (number_of g u) u (routine_count g) (omega arith) b.there (omega (arith, few, b.low))

pub code_enters : RoutinesCallTheirTexts → ProcessesCallTheirTexts → CodeEntersWhatTextsTouch
code_enters routines bodies g m form names is k p at j =
    stay_comes g m form names is routines bodies j (λ o. is_some o) (λ t. is_entry_of j t.owner)
    (record { nothing = refl; longer = longer_some; owns = λ r t x there stands own. own_some g j t x own }) k p at
