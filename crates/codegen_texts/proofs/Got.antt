-- What stands in a list at an index.
use Rattle.std.proofs.Common.{◌≡◌, ◌≤◌, ◌<◌, ℕ, List, Option, Some, None, length, get_or, refl, sym}
use Rattle.std.proofs.lemmas.Option.{slice_get_past, slice_get_read}
use Rattle.std.specs.Prelude.{HoldsAt, slice_get}
use Rattle.std.specs.Borrow.{Bor}
use Rattle.std.specs.Option.{IfSome, MatchOption, option_copied}

-- what a slice gives at an index is what the list has there
pub got-at : {X : Type 0} (r : Option (Bor X)) (xs : List X) (k : ℕ) → MatchOption r (length xs ≤ k) (λ x. (k < length xs) × HoldsAt (λ y. x.now ≡ y) xs k)
    → IfSome r (λ x. x.now ≡ get_or xs k x.now) → option_copied r ≡ slice_get xs k
got-at None xs k m s = sym (slice_get_past xs k m)
got-at (Some x) xs k m s = sym (slice_get_read xs (length xs) k x.now refl m.0 s)
