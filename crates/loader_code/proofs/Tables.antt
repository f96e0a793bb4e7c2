-- The rows of what routines reach, each from those before it.
use Rattle.std.proofs.Common.{◌≡◌, ◌≤◌, ◌<◌, ◌+◌, ℕ, Bool, true, false, List, [], ◌∷◌, length, Option, Some, None, arith, refl, ap, sym, ◌∙◌, get_or, take, ◌⊎◌, inl, inr}
use Rattle.std.specs.Prelude.{◌||◌, not, cond, nat_eq, slice_get}
use Rattle.std.proofs.lemmas.Bool.{cases_lt}
use Rattle.std.proofs.lemmas.List.{get_or_past, length-take-le}
use Rattle.std.proofs.lemmas.Option.{slice_get_within, slice_get_past}
use Rattle.base.proofs.Lists.{take_get, take_past}
use Rattle.machine_semantics.specs.Image.{Image, Routine}
use Rattle.valid_image.specs.Pieces.{called}
use Rattle.valid_image.specs.Tables.{Reach, reach, reach_of, bound_of, bound_at, stays_of, stays_at, some_of, longest_of, longer_stay, own_stay}
use Rattle.valid_image_law.proofs.Firsts.{row_is, table_length}

some_same : (f g : ℕ → Bool) → ((r : ℕ) → f r ≡ g r) → (rs : List ℕ) → some_of f rs ≡ some_of g rs
some_same f g same [] = refl
some_same f g same (r ∷ rs) = ap (λ b. b || some_of f rs) (same r) ∙ ap (λ b. g r || b) (some_same f g same rs)

longest_same : (f g : ℕ → Option ℕ) → ((r : ℕ) → f r ≡ g r) → (rs : List ℕ) → longest_of f rs ≡ longest_of g rs
longest_same f g same [] = refl
longest_same f g same (r ∷ rs) = ap (λ s. longer_stay s (longest_of f rs)) (same r) ∙ ap (λ s. longer_stay (g r) s) (longest_same f g same rs)

module _ (image : Image) where
  rows_long : (r : ℕ) (x : Routine) → slice_get image.routines r ≡ Some x → length (take r (reach image)) ≡ r
  rows_long r x at = length-take-le r (reach image) (omega (arith, slice_get_within image.routines r x at, table_length (reach_of image) [] image.routines))

  row : (r : ℕ) (x : Routine) → slice_get image.routines r ≡ Some x → slice_get (reach image) r ≡ Some (reach_of image (take r (reach image)) x)
  row r x at = row_is (reach_of image) image.routines r x at

  bound_before : (r : ℕ) (bs : List Bool) → length bs ≡ r → ((j : ℕ) → j < r → get_or bs j false ≡ bound_at (reach image) j) → (j : ℕ) → get_or bs j false ≡ bound_at (take r (reach image)) j
  bound_before r bs long each j = elim (cases_lt j r) [
    | inl low ↦ each j low ∙ ap (λ o. bound_of o) (sym (take_get r j (reach image) low))
    | inr past ↦ get_or_past bs j false (omega (arith, long, past)) ∙ ap (λ o. bound_of o) (sym (take_past r j (reach image) past))
  ]

  -- the next routine reaches a routine of a process or an entry where it is one, or calls one that does
  pub bound_row : (r : ℕ) (x : Routine) (bs : List Bool) (rs : List ℕ) → slice_get image.routines r ≡ Some x → length bs ≡ r → ((j : ℕ) → j < r → get_or bs j false ≡ bound_at (reach image) j) → rs ≡ called image r
      → not (nat_eq x.kind 0) || some_of (λ j. get_or bs j false) rs ≡ bound_at (reach image) r
  bound_row r x bs rs at long each is =
      ap (λ js. not (nat_eq x.kind 0) || some_of (λ j. get_or bs j false) js) (is ∙ ap (λ k. called image k) (sym (rows_long r x at)))
      ∙ (ap (λ b. not (nat_eq x.kind 0) || b) (some_same (λ j. get_or bs j false) (bound_at (take r (reach image))) (bound_before r bs long each) (called image (length (take r (reach image)))))
      ∙ ap (λ o. bound_of o) (sym (row r x at)))

  stay_before : (m r : ℕ) (ss : List (Option ℕ)) → length ss ≡ r → ((j : ℕ) → j < r → get_or ss j None ≡ stays_at (reach image) m j) → (j : ℕ) → get_or ss j None ≡ stays_at (take r (reach image)) m j
  stay_before m r ss long each j = elim (cases_lt j r) [
    | inl low ↦ each j low ∙ ap (λ o. stays_of m o) (sym (take_get r j (reach image) low))
    | inr past ↦ get_or_past ss j None (omega (arith, long, past)) ∙ ap (λ o. stays_of m o) (sym (take_past r j (reach image) past))
  ]

  -- the longest stay that the next routine reaches in a monitor is its own or one of those that it calls
  pub stay_row : (m r : ℕ) (x : Routine) (ss : List (Option ℕ)) (rs : List ℕ) → slice_get image.routines r ≡ Some x → length ss ≡ r → ((j : ℕ) → j < r → get_or ss j None ≡ stays_at (reach image) m j) → rs ≡ called image r
      → longer_stay (own_stay x m) (longest_of (λ j. get_or ss j None) rs) ≡ stays_at (reach image) m r
  stay_row m r x ss rs at long each is =
      ap (λ js. longer_stay (own_stay x m) (longest_of (λ j. get_or ss j None) js)) (is ∙ ap (λ k. called image k) (sym (rows_long r x at)))
      ∙ (ap (λ s. longer_stay (own_stay x m) s) (longest_same (λ j. get_or ss j None) (stays_at (take r (reach image)) m) (stay_before m r ss long each) (called image (length (take r (reach image)))))
      ∙ ap (λ o. stays_of m o) (sym (row r x at)))

  -- all rows
  pub stay_rows : (m : ℕ) (ss : List (Option ℕ)) → length ss ≡ length image.routines → ((j : ℕ) → j < length ss → get_or ss j None ≡ stays_at (reach image) m j) → (rs : List ℕ) → longest_of (λ j. get_or ss j None) rs ≡ longest_of (stays_at (reach image) m) rs
  stay_rows m ss long each rs = longest_same (λ j. get_or ss j None) (stays_at (reach image) m) every rs where
    every : (j : ℕ) → get_or ss j None ≡ stays_at (reach image) m j
    every j = elim (cases_lt j (length ss)) [
      | inl low ↦ each j low
      | inr past ↦ get_or_past ss j None past ∙ ap (λ o. stays_of m o) (sym (none_past j past))
    ] where
      none_past : (j : ℕ) → length ss ≤ j → slice_get (reach image) j ≡ None
      none_past j past = slice_get_past (reach image) j (omega (arith, past, long, table_length (reach_of image) [] image.routines))
