-- Where variables lie: in which area, from which word on.
--
-- Numbers are not capped here: a program with an offset or a number of words above 2147483647 has
-- too many instructions or too large a stack, and is refused.
use Rattle.std.specs.Prelude.{ℕ, zero, suc, ◌+◌, Bool, false, List, [], ◌∷◌, ◌++◌, Option, Some, None, ℤ, ◌-ℤ◌, option_map, filter_map, slice_get}
use Rattle.syntax_tree.specs.Plain.{Name, Param, Kind, scalar, array as array_of, Var, Stmt, assign, assign_entry, assign_empty, perform, perform_entry, when, when_else, loop, exit_when, get, put, wait, signal, broadcast, except, assert, Stmts, no_stmts, stmts, Routine, Monitor, Process, Handler, Program}
use Rattle.source_semantics.specs.Names.{named, constant_value, monitors, processes, variable_in}
use Rattle.source_semantics.specs.Store.{Range, range_of, kind_range, up_to}
use Rattle.source_semantics.specs.Run.{Home, of_program, of_process, of_monitor, or_else}

-- whose text it is, and with it whose variables it names beside its own: the program's, process
-- k's, or monitor m's
pub data Owner : Type 0 where
  by_program : Owner
  by_process : ℕ → Owner
  by_monitor : ℕ → Owner

-- the same as the meaning of programs has it
abbrev pub home_of : Owner → Home
home_of by_program = of_program
home_of (by_process k) = of_process
home_of (by_monitor m) = of_monitor m

-- one word, or an array from its lower bound on
pub data Shape : Type 0 where
  single : Shape
  array : (low : ℤ) (len : ℕ) → Shape

-- a variable: from which word of its area on it lies, its shape, the range that its values keep to,
-- if any, and whether it is a loop's
pub record Place : Type 0 where
  pub name : Name
  pub range : Option Range
  pub word : ℕ
  pub shape : Shape
  pub fixed : Bool

abbrev pub size_of : Shape → ℕ
size_of single = 1
size_of (array low len) = len

abbrev pub shape_of : Program → Kind → Shape
shape_of g (scalar k) = single
shape_of g (array_of low high k) = array (constant_value g low) (up_to (constant_value g high -ℤ constant_value g low))

-- how many words variables take
abbrev pub words_of : Program → List Var → ℕ
words_of g [] = 0
words_of g (v ∷ vs) = size_of (shape_of g v.kind) + words_of g vs

-- variables one after the other, from a word on
abbrev pub places_from : Program → ℕ → List Var → List Place
places_from g w [] = []
places_from g w (v ∷ vs) = record { name = v.name; range = kind_range g v.kind; word = w; shape = shape_of g v.kind; fixed = false } ∷ places_from g (w + size_of (shape_of g v.kind)) vs

-- ---- a process's own words

abbrev pub vars_of_process : Option Process → List Var
vars_of_process None = []
vars_of_process (Some p) = p.vars

abbrev pub process_places : Program → ℕ → List Place
process_places g k = places_from g 0 (vars_of_process (slice_get (processes g) k))

-- ---- the words of the monitors, in one area

abbrev pub monitor_vars : Monitor → List Var
monitor_vars m = filter_map variable_in m.members

-- the words of the monitors before number k, where the words before them are given
abbrev pub base_from : Program → ℕ → ℕ → List Monitor → ℕ
base_from g before k [] = before
base_from g before zero (m ∷ ms) = before
base_from g before (suc k) (m ∷ ms) = base_from g (before + words_of g (monitor_vars m)) k ms

abbrev pub monitor_base : Program → ℕ → ℕ
monitor_base g k = base_from g 0 k (monitors g)

abbrev pub vars_of_monitor : Option Monitor → List Var
vars_of_monitor None = []
vars_of_monitor (Some m) = monitor_vars m

abbrev pub monitor_places : Program → ℕ → List Place
monitor_places g k = places_from g (monitor_base g k) (vars_of_monitor (slice_get (monitors g) k))

-- ---- the words of a frame

abbrev pub param_places : Program → ℕ → List Param → List Place
param_places g w [] = []
param_places g w (p ∷ ps) = record { name = p.name; range = range_of g p.kind; word = w; shape = single; fixed = false } ∷ param_places g (suc w) ps

-- how many loops statements have
abbrev mutual
  pub loops_in : Stmt → ℕ
  loops_in (when e a) = loops a
  loops_in (when_else e a b) = loops a + loops b
  loops_in (loop i low high ss) = suc (loops ss)
  loops_in (assign r e) = 0
  loops_in (assign_entry r m e es) = 0
  loops_in (assign_empty r x) = 0
  loops_in (perform f es) = 0
  loops_in (perform_entry m e es) = 0
  loops_in (exit_when e) = 0
  loops_in (get d r) = 0
  loops_in (put d e) = 0
  loops_in (wait x limit number) = 0
  loops_in (signal x) = 0
  loops_in (broadcast x) = 0
  loops_in (except n) = 0
  loops_in (assert e) = 0

  pub loops : Stmts → ℕ
  loops no_stmts = 0
  loops (stmts s ss) = loops_in s + loops ss

abbrev pub count : {A : Type 0} → List A → ℕ
count [] = 0
count (x ∷ xs) = suc (count xs)

-- the words of a routine's parameters and variables
abbrev pub routine_vars_words : Program → Routine → ℕ
routine_vars_words g r = count r.params + words_of g r.vars

-- parameters, then variables
abbrev pub routine_places : Program → Routine → List Place
routine_places g r = param_places g 0 r.params ++ places_from g (count r.params) r.vars

-- parameters, variables, and then one word for each loop, in the order of the text
abbrev pub routine_words : Program → Routine → ℕ
routine_words g r = routine_vars_words g r + loops r.body

abbrev pub handler_loops : Option Handler → ℕ
handler_loops None = 0
handler_loops (Some h) = loops h.body

-- one word for each loop of body and handler
abbrev pub frame_words : Process → ℕ
frame_words p = loops p.body + handler_loops p.handler

-- ---- what names mean

-- the words of a frame, of a process, or of all monitors
pub data Area : Type 0 where
  in_frame : Area
  in_process : Area
  in_monitor : Area

-- where a variable lies, with its area
pub record Spot : Type 0 where
  pub area : Area
  pub place : Place

-- Where a text stands: whose text it is, whether it is that of a function that is no entry, the
-- variables of its frame in reach, where an exit from the loop around it goes, and how many words
-- the frame has.
pub record Scope : Type 0 where
  pub owner : Owner
  pub is_function : Bool
  pub own : List Place
  pub exit : Option ℕ
  pub frame : ℕ

abbrev pub place_named : Name → List Place → Option Place
place_named x ps = named (λ p. p.name) x ps

abbrev pub in_area : Area → Option Place → Option Spot
in_area a p = option_map (λ q. record { area = a; place = q }) p

-- a variable beside the frame's own
abbrev pub outer_spot : Program → Owner → Name → Option Spot
outer_spot g by_program x = None
outer_spot g (by_process k) x = in_area in_process (place_named x (process_places g k))
outer_spot g (by_monitor m) x = in_area in_monitor (place_named x (monitor_places g m))

-- the variable that a name means: one of the frame's first
abbrev pub spot_of : Program → Scope → Name → Option Spot
spot_of g c x = or_else (in_area in_frame (place_named x c.own)) (outer_spot g c.owner x)
