-- Declared costs and sizes, and those that the trees need. Sums use the declared numbers of the
-- routines that are called.
use Rattle.std.specs.Prelude.{◌+◌, ◌-◌, ◌*◌, ℕ, zero, suc, cond, List, Option, Some, None, take, min, max, nat_eq, nat_le, slice_get, sum_by}
use Rattle.base.specs.Capped.{cap}
use Rattle.base.specs.declared.capped.Cost.{Cost}
use Rattle.machine_semantics.specs.Image.{Image, Monitor, Routine, Process}
use Rattle.valid_image.specs.Found.{plus, longer}
use Rattle.valid_image.specs.Fault.{Fault, unless, or_else, first_in}
use Rattle.valid_image.specs.Tables.{known, routine_found, body_found, handler_found, found_or_nothing}

-- a declared number below the one that is needed
abbrev pub below : (declared needed : ℕ) → Option Fault
below d n = unless (nat_le n d) d n

-- a declared number other than the one that is due
abbrev pub other : (declared due : ℕ) → Option Fault
other d n = unless (nat_eq d n) d n

-- ---- costs

-- what the tree of a routine comes to, and its RET or RETV
abbrev pub needed_by_routine : Image → ℕ → Routine → Cost
needed_by_routine image r x = longer 4 (found_or_nothing (routine_found image.code (take r (known image)) x)).cost

-- an entry stays from its ENTER, whose 5 ticks are not counted in, to its LEAVE; the RET is outside
abbrev pub needed_stay : Image → ℕ → Routine → ℕ
needed_stay image r x = cond (nat_eq x.kind 2) ((found_or_nothing (routine_found image.code (take r (known image)) x)).cost.run - 5) 0

abbrev pub routine_cost_fault : Image → ℕ → Routine → Option Fault
routine_cost_fault image r x =
    or_else (below x.run (cap (needed_by_routine image r x).run))
    (or_else (below x.susp (cap (needed_by_routine image r x).susp))
    (or_else (below x.waits (cap (needed_by_routine image r x).waits)) (below x.stay (cap (needed_stay image r x)))))

-- what the trees of a process come to, body, handler and END
abbrev pub needed_by_process : Image → Process → Cost
needed_by_process image p =
    longer 4 (plus (found_or_nothing (body_found image p)).cost (found_or_nothing (handler_found image p p.handler_tree)).cost)

-- with two dispatches at the release, and two after each wait
abbrev pub with_dispatch : (over : ℕ) → Cost → ℕ
with_dispatch over c = c.run + 2 * over * (1 + c.waits)

abbrev pub process_cost_fault : Image → Process → Option Fault
process_cost_fault image p =
    or_else (below p.run (cap (with_dispatch image.over (needed_by_process image p))))
    (or_else (below p.susp (cap (needed_by_process image p).susp)) (below p.waits (cap (needed_by_process image p).waits)))

abbrev pub cost_fault : Image → Option Fault
cost_fault image = or_else (first_in (routine_cost_fault image) image.routines) (first_in (λ k p. process_cost_fault image p) image.processes)

-- ---- sizes

-- the stack of a process: its locals and the depth of its body and handler, which is held at 4,097
abbrev pub depth_of : Image → Process → ℕ
depth_of image p = max (found_or_nothing (body_found image p)).depth (found_or_nothing (handler_found image p p.handler_tree)).depth

abbrev pub needed_stack : Image → Process → ℕ
needed_stack image p = p.locals + min (depth_of image p) 4097

-- the words of a monitor stand right after those of the one before
abbrev pub end_of_words : Option Monitor → ℕ
end_of_words None = 0
end_of_words (Some m) = m.base + m.words

abbrev pub due_base : List Monitor → ℕ → ℕ
due_base ms zero = 0
due_base ms (suc m) = end_of_words (slice_get ms m)

-- the words of all monitors and all processes
abbrev pub words_over_all : Image → ℕ
words_over_all image = sum_by (λ m. m.words) image.monitors + sum_by (λ p. p.words) image.processes

-- the arguments of a routine are among its locals
abbrev pub params_fault : Image → Option Fault
params_fault image = first_in (λ r x. below x.locals x.params) image.routines

abbrev pub stack_fault : Image → Option Fault
stack_fault image = first_in (λ k p. below p.stack (needed_stack image p)) image.processes

abbrev pub base_fault : List Monitor → Option Fault
base_fault monitors = first_in (λ m x. other x.base (due_base monitors m)) monitors

abbrev pub words_fault : Image → Option Fault
words_fault image = below 1048576 (words_over_all image)

abbrev pub size_fault : Image → Option Fault
size_fault image = or_else (params_fault image) (or_else (stack_fault image) (or_else (base_fault image.monitors) (words_fault image)))
