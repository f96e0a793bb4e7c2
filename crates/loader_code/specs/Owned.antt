-- The addresses of each piece, in ascending order.
use Rattle.std.specs.Prelude.{◌≡◌, ◌+◌, ◌<◌, ◌++◌, ℕ, zero, suc, cond, List, [], ◌∷◌, length, map, flat_map, Option, Some, None, nat_eq, slice_index_or, slice_get}
use Rattle.machine_isa.specs.declared.instr.Instr.{Instr}
use Rattle.machine_semantics.specs.Image.{Image}
use Rattle.valid_image.specs.Fault.{or_else}
use Rattle.valid_image.specs.Operands.{is_same}
use Rattle.valid_image.specs.Pieces.{Piece, pieces, belongs, called, called_by}

abbrev pub start_of : Piece → ℕ
start_of x = x.start

-- the number of the last piece, from number k on, that starts at the address, by their starts
abbrev pub last_start : (starts : List ℕ) → (k a : ℕ) → Option ℕ
last_start [] k a = None
last_start (x ∷ xs) k a = or_else (last_start xs (suc k) a) (cond (nat_eq x a) (Some k) None)

-- by address, the last piece that starts there
pub record AreMarks (starts : List ℕ) (n : ℕ) (marks : List (Option ℕ)) : Type 0 where
  pub one_each : length marks ≡ n
  pub each : (a : ℕ) → a < n → slice_index_or marks a None ≡ last_start starts 0 a

-- the addresses of a piece, of n from one on
abbrev pub owned_from : Image → (k n a : ℕ) → List ℕ
owned_from image k zero a = []
owned_from image k (suc n) a = cond (belongs image k a) (a ∷ []) [] ++ owned_from image k n (a + 1)

abbrev pub owned : Image → ℕ → List ℕ
owned image k = owned_from image k (length image.code) 0

-- one of n pieces, if there is one
abbrev pub IsBelow : ℕ → Option ℕ → Type 0
IsBelow n None = Unit {0}
IsBelow n (Some k) = k < n

-- the address was given to the piece, if there is one, after those that it has
pub record IsGiven (owner : Option ℕ) (address : ℕ) (before after : List (List ℕ)) : Type 0 where
  pub one_each : length after ≡ length before
  pub each : (k : ℕ) → k < length before → slice_index_or after k [] ≡ slice_index_or before k [] ++ cond (is_same k owner) (address ∷ []) []

-- by piece, its addresses
pub record AreOwned (image : Image) (all : List (List ℕ)) : Type 0 where
  pub one_each : length all ≡ length (pieces image)
  pub each : (k : ℕ) → k < length all → slice_index_or all k [] ≡ owned image k

-- the routines that the code at these addresses calls
abbrev pub calls_of : List Instr → List ℕ → List ℕ
calls_of code addresses = flat_map (λ a. called_by (slice_get code a)) addresses

abbrev pub number_of : Option ℕ → List ℕ
number_of None = []
number_of (Some n) = n ∷ []

-- by piece, the routines that it calls
pub record AreCalls (image : Image) (all : List (List ℕ)) : Type 0 where
  pub one_each : length all ≡ length (pieces image)
  pub each : (k : ℕ) → k < length all → slice_index_or all k [] ≡ called image k
