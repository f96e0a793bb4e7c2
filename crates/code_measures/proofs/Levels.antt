-- At each level above its number the same is known of a routine, costs once capped.
use Rattle.std.specs.Prelude.{◌≡◌, ◌≤◌, ◌<◌, ℕ, zero, suc, Some, slice_get}
use Rattle.std.proofs.Common.{sym, subst, ◌∙◌, arith}
use Rattle.std.proofs.lemmas.Option.{slice_get_within}
use Rattle.syntax_tree.specs.Plain.{Program}
use Rattle.source_semantics.specs.Names.{routine_count}
use Rattle.code_spec.specs.Numbering.{Text, numbered, number_of}
use Rattle.code_cost_spec.specs.Costs.{routine_cost}
use Rattle.code_cost_spec.specs.Heights.{routine_height}
use Rattle.code_cost_spec.specs.Levels.{routine_names, calls_at, calls_of, cost_of_routine}
use Rattle.code_measures.specs.Like.{Like}
use Rattle.code_measures.specs.Declared.{IsBelow, IsSound}
use Rattle.code_measures.proofs.Likes.{Same, CallsSame, routine_same}
use Rattle.code_measures.proofs.Rows.{cost_at, height_at}

abbrev AtLevels : Program → Text → (n m : ℕ) → Type 0
AtLevels g t n m = Same ((calls_at n g).cost t) ((calls_at m g).cost t) ((calls_at n g).height t) ((calls_at m g).height t)

module _ (g : Program) (sound : IsSound g) where
  abbrev Before : ℕ → Type 0
  Before r = (q : ℕ) (u : Text) → q < r → slice_get (numbered g) q ≡ Some u → (n m : ℕ) → q < n → q < m → AtLevels g u n m

  known_same : (r : ℕ) → Before r → (n m : ℕ) → r ≤ n → r ≤ m → CallsSame (λ y. IsBelow g r y) (calls_at n g) (calls_at m g)
  known_same r before n m a b u low = before (number_of g u) u low.low low.there n m (omega (arith, low.low, a)) (omega (arith, low.low, b))

  one_up : (r : ℕ) → Before r → (t : Text) → slice_get (numbered g) r ≡ Some t → (n m : ℕ) → r ≤ n → r ≤ m → AtLevels g t (suc n) (suc m)
  one_up r before t at n m a b =
      let s = routine_same g (λ y. IsBelow g r y) (calls_at n g) (calls_at m g) (known_same r before n m a b) t (sound.routines r t at) in
      record {
        cost = subst (λ c. Like c ((calls_at (suc m) g).cost t)) (sym (cost_at n g t)) (subst (λ c. Like (routine_cost g (routine_names g t) (calls_at n g) t) c) (sym (cost_at m g t)) s.cost);
        height = height_at n g t ∙ (s.height ∙ sym (height_at m g t));
      }

  below : (k r : ℕ) (t : Text) → r < k → slice_get (numbered g) r ≡ Some t → (n m : ℕ) → r < n → r < m → AtLevels g t n m
  below zero r t lt at n m a b = absurd (omega (arith, lt))
  below (suc k) r t lt at zero m a b = absurd (omega (arith, a))
  below (suc k) r t lt at (suc n) zero a b = absurd (omega (arith, b))
  below (suc k) r t lt at (suc n) (suc m) a b = one_up r (λ q u less there i j c d. below k q u (omega (arith, less, lt)) there i j c d) t at n m (omega (arith, a)) (omega (arith, b))

  -- what is known of a routine where it is called is what is defined of it
  pub known_as : (r : ℕ) (t : Text) → slice_get (numbered g) r ≡ Some t
      → Same ((calls_of g).cost t) (cost_of_routine g t) ((calls_of g).height t) (routine_height g t.owner (calls_of g) t.routine)
  known_as r t at =
      let n = routine_count g in
      let low : r < n = omega (arith, slice_get_within (numbered g) r t at, sound.few) in
      let s = below (suc r) r t (omega arith) at n (suc n) low (omega (arith, low)) in
      record {
        cost = subst (λ c. Like ((calls_of g).cost t) c) (cost_at n g t) s.cost;
        height = s.height ∙ height_at n g t;
      }
