-- What is reached from a tree or a piece of code, and which piece an address belongs to.
use Rattle.std.specs.Prelude.{◌≡◌, ◌≤◌, ◌<◌, ◌⊎◌, ◌↔◌, ℕ, pos, true, List, length, Some, slice_get}
use Rattle.machine_isa.specs.declared.instr.Instr.TheVariants as i
use Rattle.machine_semantics.specs.Trees.{Seg, Segs, Line, Fork, Rep, Call, Stay, Wait, Exit, Nil, Cons}
use Rattle.machine_semantics.specs.Image.{Image, Routine}
use Rattle.valid_image.specs.Pieces.{Piece, pieces, belongs, piece_number}
use Rattle.valid_image.specs.Tables.{bound_at, reach, tree_waits, stay_of_process}

-- ---- waits

-- the segment stands in the tree, at any depth
abbrev mutual
  pub IsWithin : Seg → Seg → Type 0
  IsWithin s (Line n) = s ≡ Line n
  IsWithin s (Fork first second) = StandsIn s first ⊎ StandsIn s second
  IsWithin s (Rep turns body) = StandsIn s body
  IsWithin s (Call r) = s ≡ Call r
  IsWithin s (Stay monitor body) = StandsIn s body
  IsWithin s Wait = s ≡ Wait
  IsWithin s Exit = s ≡ Exit

  pub StandsIn : Seg → Segs → Type 0
  StandsIn s Nil = ⊥
  StandsIn s (Cons head rest) = IsWithin s head ⊎ StandsIn s rest

-- a tree reaches a WAIT: one stands in it, or in a routine that it calls; a routine is called from
-- below this number
pub data ReachesWait (image : Image) : (below : ℕ) → Segs → Type 0 where
  waits : (below : ℕ) (tree : Segs) → StandsIn Wait tree → ReachesWait image below tree
  calls : (below : ℕ) (tree : Segs) (r : ℕ) (x : Routine) → StandsIn (Call r) tree → r < below → slice_get image.routines r ≡ Some x
      → ReachesWait image r x.tree → ReachesWait image below tree

abbrev pub WaitsAreReached : Type 0
WaitsAreReached = (image : Image) (tree : Segs) → (tree_waits (reach image) tree ≡ true) ↔ ReachesWait image (length image.routines) tree

-- ---- owners of addresses

-- the piece is the one that starts last at the address or before it, and of those that start there
-- the last
pub record IsOwner (ps : List Piece) (k a : ℕ) : Type 0 where
  pub piece : Piece
  pub there : slice_get ps k ≡ Some piece
  pub starts : piece.start ≤ a
  pub last : (j : ℕ) (y : Piece) → slice_get ps j ≡ Some y → y.start ≤ a → (y.start < piece.start) ⊎ ((y.start ≡ piece.start) × (j ≤ k))

abbrev pub AddressesBelongToOwners : Type 0
AddressesBelongToOwners = (image : Image) (k a : ℕ) → (belongs image k a ≡ true) ↔ IsOwner (pieces image) k a

-- ---- entries

-- an instruction of the piece calls the routine
pub record CallsFrom (image : Image) (piece r : ℕ) : Type 0 where
  pub address : ℕ
  pub owned : IsOwner (pieces image) piece address
  pub is : slice_get image.code address ≡ Some (i.Call (pos r))

-- from the piece an entry of the monitor is reached, which declares this stay: it is called, or a
-- routine is called that reaches it; a routine is called from below this number
pub data ReachesStay (image : Image) (m : ℕ) : (piece below stay : ℕ) → Type 0 where
  enters : (piece below r : ℕ) (x : Routine) → CallsFrom image piece r → r < below → slice_get image.routines r ≡ Some x
      → x.kind ≡ 2 → x.owner ≡ m → ReachesStay image m piece below x.stay
  passes : (piece below r stay : ℕ) (x : Routine) → CallsFrom image piece r → r < below → slice_get image.routines r ≡ Some x
      → ReachesStay image m r r stay → ReachesStay image m piece below stay

-- the longest of such
pub record IsLongest (S : ℕ → Type 0) (n : ℕ) : Type 0 where
  pub is_one : S n
  pub no_longer : (m : ℕ) → S m → m ≤ n

-- what a process is taken to stay in a monitor is the longest stay of an entry that it reaches
abbrev pub StaysAreReached : Type 0
StaysAreReached =
    (image : Image) (k m n : ℕ) → (stay_of_process image k m ≡ Some n) ↔ IsLongest (ReachesStay image m (piece_number image k) (length image.routines)) n

-- ---- what entries may not call

-- the routine is one of a process or an entry, or it calls one before it that reaches such
pub data ReachesBound (image : Image) : (r : ℕ) → Type 0 where
  is_bound : (r : ℕ) (x : Routine) → slice_get image.routines r ≡ Some x → (x.kind ≡ 0 → ⊥) → ReachesBound image r
  calls_bound : (r q : ℕ) (x : Routine) → slice_get image.routines r ≡ Some x → CallsFrom image r q → q < r → ReachesBound image q → ReachesBound image r

abbrev pub BoundAreReached : Type 0
BoundAreReached = (image : Image) (r : ℕ) → (bound_at (reach image) r ≡ true) ↔ ReachesBound image r
