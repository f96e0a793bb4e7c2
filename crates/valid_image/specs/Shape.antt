-- Code that is of its trees, and handlers.
use Rattle.std.specs.Prelude.{◌&&◌, not, ℕ, Bool, true, false, length, Option, Some, None, take, nat_eq}
use Rattle.machine_semantics.specs.Trees.{Segs}
use Rattle.machine_semantics.specs.Image.{Image, Routine, Process}
use Rattle.valid_image.specs.Found.{Found}
use Rattle.valid_image.specs.Fault.{Fault, unless, or_else, first_in}
use Rattle.valid_image.specs.Pieces.{pieces, due_start, piece_number}
use Rattle.valid_image.specs.Tables.{known, routine_found, body_found, handler_start, handler_found, reach, tree_waits}

abbrev pub is_found : Option Found → Bool
is_found None = false
is_found (Some f) = true

-- ---- starts, trees, heights, coverage

-- a routine starts where the piece before it ends, and its code is of its tree; the routines that
-- it calls stand before it
abbrev pub routine_shape_fault : Image → ℕ → Routine → Option Fault
routine_shape_fault image r x =
    unless (nat_eq x.start (due_start (pieces image) r) && is_found (routine_found image.code (take r (known image)) x)) x.start 0

-- so is the code of a process: its body, and its handler right after that
abbrev pub process_shape_fault : Image → ℕ → Process → Option Fault
process_shape_fault image k p =
    unless (nat_eq p.start (due_start (pieces image) (piece_number image k)) && (is_found (body_found image p) && is_found (handler_found image p p.handler_tree))) p.start 0

-- the pieces cover the code: the first address that none of them covers is the end of the last
abbrev pub coverage_fault : Image → Option Fault
coverage_fault image =
    unless (nat_eq (due_start (pieces image) (length (pieces image))) (length image.code)) (due_start (pieces image) (length (pieces image))) 0

abbrev pub shape_fault : Image → Option Fault
shape_fault image = or_else (first_in (routine_shape_fault image) image.routines) (or_else (first_in (process_shape_fault image) image.processes) (coverage_fault image))

-- ---- handlers

-- a handler stands right after the first END, and reaches no WAIT
abbrev pub is_handler : Image → Process → Option Segs → Bool
is_handler image p None = true
is_handler image p (Some tree) = nat_eq p.handler (handler_start p) && not (tree_waits (reach image) tree)

abbrev pub handler_fault : Image → Option Fault
handler_fault image = first_in (λ k p. unless (is_handler image p p.handler_tree) k 0) image.processes
