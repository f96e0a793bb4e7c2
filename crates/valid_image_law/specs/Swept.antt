-- The pieces that addresses belong to, one address after the other.
use Rattle.std.specs.Prelude.{◌≡◌, ◌+◌, ℕ, suc, cond, List, [], ◌∷◌, Option, Some, None, nat_eq}
use Rattle.valid_image.specs.Fault.{or_else}
use Rattle.valid_image.specs.Pieces.{Piece, Owner, closest}

-- the last of the pieces, from number k on, that starts at the address
abbrev pub starting : List Piece → (k a : ℕ) → Option Owner
starting [] k a = None
starting (x ∷ xs) k a = or_else (starting xs (suc k) a) (cond (nat_eq x.start a) (Some (record { number = k; start = x.start })) None)

-- The law: the owner of an address is the last piece that starts there, or else the owner of the
-- address before.
pub record SweepingFindsOwners : Type 0 where
  pub first : (xs : List Piece) → closest xs 0 0 None ≡ starting xs 0 0
  pub next : (xs : List Piece) (a : ℕ) → closest xs 0 (a + 1) None ≡ or_else (starting xs 0 (a + 1)) (closest xs 0 a None)
