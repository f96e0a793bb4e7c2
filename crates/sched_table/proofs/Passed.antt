-- The first process without a bound, where one has a bound.
use Rattle.std.proofs.Common.{◌≡◌, ◌<◌, ◌+◌, ℕ, List, [], ◌∷◌, Option, Some, None, length, drop, get_or, sym, ap, ◌∙◌, true, refl}
use Rattle.std.specs.Option.{is_some}
use Rattle.std.proofs.lemmas.List.{drop_more}
use Rattle.sched_table.specs.declared.table.Row.{Row}
use Rattle.sched_table.specs.Late.{late, late_or}

skips : (name : List ℕ) (bound : Option ℕ) (others : Option (List ℕ)) → is_some bound ≡ true → late_or name bound others ≡ others
skips name None others has = cc
skips name (Some b) others has = refl

pub passed : (names : List (List ℕ)) (rows : List Row) (at : ℕ) (d : Row) → at < length names → at < length rows → is_some (get_or rows at d).bound ≡ true → late (drop at names) (drop at rows) ≡ late names rows
    → late (drop (at + 1) names) (drop (at + 1) rows) ≡ late names rows
passed names rows at d named within has so_far =
    let here : late (drop at names) (drop at rows) ≡ late_or (get_or names at []) (get_or rows at d).bound (late (drop (at + 1) names) (drop (at + 1) rows)) =
    ap (λ ns. late ns (drop at rows)) (drop_more names at [] named) ∙ ap (λ rs. late (get_or names at [] ∷ drop (at + 1) names) rs) (drop_more rows at d within) in
    sym (skips (get_or names at []) (get_or rows at d).bound (late (drop (at + 1) names) (drop (at + 1) rows)) has) ∙ sym here ∙ so_far
