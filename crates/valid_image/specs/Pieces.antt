-- The pieces of the code, one for each routine and process in this order, and which piece an
-- address belongs to.
use Rattle.std.specs.Prelude.{◌+◌, ◌++◌, ◌&&◌, ℕ, zero, suc, Bool, false, cond, pos, List, [], ◌∷◌, length, map, Option, Some, None, nat_eq, nat_le, slice_get}
use Rattle.machine_isa.specs.declared.instr.Instr.{Instr}
use Rattle.machine_isa.specs.declared.instr.Instr.TheVariants as i
use Rattle.machine_semantics.specs.Trees.{Segs, size}
use Rattle.machine_semantics.specs.Image.{Image, Routine, Process}

-- where a piece of code is declared to start, and how many instructions its trees cover with those
-- that end them
pub record Piece : Type 0 where
  pub start : ℕ
  pub length : ℕ

abbrev pub end_of_piece : Option Piece → ℕ
end_of_piece None = 0
end_of_piece (Some x) = x.start + x.length

-- a handler is there where it takes some number
abbrev pub handler_length : Option Segs → ℕ
handler_length None = 0
handler_length (Some tree) = size tree + 1

-- the code of a routine and its RET or RETV
abbrev pub piece_of_routine : Routine → Piece
piece_of_routine r = record { start = r.start; length = size r.tree + 1 }

-- the code of a process and its END, then its handler and the END of this
abbrev pub piece_of_process : Process → Piece
piece_of_process p = record { start = p.start; length = size p.body + 1 + handler_length p.handler_tree }

-- routines come before processes
abbrev pub pieces : Image → List Piece
pieces image = map piece_of_routine image.routines ++ map piece_of_process image.processes

-- the address at which a piece starts where the pieces follow one another: the end of the one
-- before
abbrev pub due_start : List Piece → ℕ → ℕ
due_start ps zero = 0
due_start ps (suc k) = end_of_piece (slice_get ps k)

-- ---- which piece an address belongs to

-- the piece that an address belongs to: its number, and its start
pub record Owner : Type 0 where
  pub number : ℕ
  pub start : ℕ

-- it starts at the address or before, and no earlier than the best so far
abbrev pub comes_closer : Option Owner → (start a : ℕ) → Bool
comes_closer None start a = nat_le start a
comes_closer (Some best) start a = nat_le start a && nat_le best.start start

-- the closest of those so far and of the pieces from number k on
abbrev pub closest : List Piece → (k a : ℕ) → Option Owner → Option Owner
closest [] k a best = best
closest (x ∷ xs) k a best = closest xs (suc k) a (cond (comes_closer best x.start a) (Some (record { number = k; start = x.start })) best)

abbrev pub is_owner : ℕ → Option Owner → Bool
is_owner k None = false
is_owner k (Some x) = nat_eq x.number k

-- an address belongs to the piece with the greatest start not above it, the later one of two with
-- the same
abbrev pub belongs : Image → (k a : ℕ) → Bool
belongs image k a = is_owner k (closest (pieces image) 0 a None)

-- ---- calls

-- the routine that an instruction calls
abbrev pub called_by : Option Instr → List ℕ
called_by (Some (i.Call (pos r))) = r ∷ []
called_by _ = []

-- the routines that a piece calls, by its CALL instructions among n from the address on
abbrev pub called_from : Image → (k n a : ℕ) → List ℕ
called_from image k zero a = []
called_from image k (suc n) a = cond (belongs image k a) (called_by (slice_get image.code a)) [] ++ called_from image k n (a + 1)

abbrev pub called : Image → ℕ → List ℕ
called image k = called_from image k (length image.code) 0

-- the number of a process among the pieces
abbrev pub piece_number : Image → ℕ → ℕ
piece_number image k = length image.routines + k
