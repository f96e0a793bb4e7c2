-- The first process without a bound: a row without one, and rows that are passed.
use Rattle.std.proofs.Common.{◌≡◌, ◌<◌, ◌+◌, ℕ, List, [], ◌∷◌, Option, Some, None, length, drop, get_or, ap, arith, inl, inr, sym, ◌∙◌, refl}
use Rattle.std.specs.Prelude.{is_none, is_some, slice_get, true, false, if◌then◌else◌}
use Rattle.std.proofs.lemmas.Bool.{cases_lt}
use Rattle.std.proofs.lemmas.List.{drop_all, drop_more}
use Rattle.std.proofs.lemmas.Option.{slice_get-get_or, slice_get_past}
use Rattle.sched_table.specs.declared.table.Row.{Row}
use Rattle.sched_table.specs.Late.{late, late_or}
use Rattle.message_program.specs.Late.{late_row}

none_is : (bound : Option ℕ) → is_some bound ≡ false → is_none bound ≡ true
none_is None none = refl
none_is (Some b) none = cc

some_is : (bound : Option ℕ) → is_some bound ≡ true → is_none bound ≡ false
some_is None some = cc
some_is (Some b) some = refl

takes : (name : List ℕ) (bound : Option ℕ) (others : Option (List ℕ)) → is_some bound ≡ false → late_or name bound others ≡ Some name
takes name None others none = refl
takes name (Some b) others none = cc

skips : (name : List ℕ) (bound : Option ℕ) (others : Option (List ℕ)) → is_some bound ≡ true → late_or name bound others ≡ others
skips name None others some = cc
skips name (Some b) others some = refl

no_names : (rows : List Row) → late [] rows ≡ None
no_names [] = refl
no_names (row ∷ rows) = refl

-- the first names and rows from a row on
late_at : (names : List (List ℕ)) (rows : List Row) (i : ℕ) (d : Row) → i < length names → i < length rows
    → late (drop i names) (drop i rows) ≡ late_or (get_or names i []) (get_or rows i d).bound (late (drop (i + 1) names) (drop (i + 1) rows))
late_at names rows i d named within =
    ap (λ ns. late ns (drop i rows)) (drop_more names i [] named) ∙ ap (λ rs. late (get_or names i [] ∷ drop (i + 1) names) rs) (drop_more rows i d within)

pub name_taken : (names : List (List ℕ)) (rows : List Row) (i : ℕ) (d : Row) → i < length rows → is_some (get_or rows i d).bound ≡ false
    → slice_get names i ≡ late (drop i names) (drop i rows)
name_taken names rows i d within none = elim (cases_lt i (length names)) [
  | inl named ↦ slice_get-get_or names i [] named ∙ sym (late_at names rows i d named within ∙ takes (get_or names i []) (get_or rows i d).bound _ none)
  | inr past ↦ slice_get_past names i past ∙ sym (ap (λ ns. late ns (drop i rows)) (drop_all i names past) ∙ no_names (drop i rows))
]

pub name_passed : (names : List (List ℕ)) (rows : List Row) (i : ℕ) (d : Row) → i < length rows → is_some (get_or rows i d).bound ≡ true
    → late (drop (i + 1) names) (drop (i + 1) rows) ≡ late (drop i names) (drop i rows)
name_passed names rows i d within some = elim (cases_lt i (length names)) [
  | inl named ↦ sym (late_at names rows i d named within ∙ skips (get_or names i []) (get_or rows i d).bound _ some)
  | inr past ↦ ap (λ ns. late ns (drop (i + 1) rows)) (drop_all (i + 1) names (omega (arith, past))) ∙ no_names (drop (i + 1) rows)
      ∙ sym (ap (λ ns. late ns (drop i rows)) (drop_all i names past) ∙ no_names (drop i rows))
]

pub row_taken : (rows : List Row) (i : ℕ) (d : Row) → i < length rows → is_some (get_or rows i d).bound ≡ false → late_row (drop i rows) ≡ Some (get_or rows i d)
row_taken rows i d within none =
    ap late_row (drop_more rows i d within) ∙ ap (λ b. if b then Some (get_or rows i d) else late_row (drop (i + 1) rows)) (none_is (get_or rows i d).bound none)

pub row_passed : (rows : List Row) (i : ℕ) (d : Row) → i < length rows → is_some (get_or rows i d).bound ≡ true → late_row (drop (i + 1) rows) ≡ late_row (drop i rows)
row_passed rows i d within some =
    sym (ap late_row (drop_more rows i d within) ∙ ap (λ b. if b then Some (get_or rows i d) else late_row (drop (i + 1) rows)) (some_is (get_or rows i d).bound some))

pub no_rows : (names : List (List ℕ)) → late names [] ≡ None
no_rows [] = refl
no_rows (name ∷ names) = refl
