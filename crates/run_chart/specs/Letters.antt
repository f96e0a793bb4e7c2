-- The letter of a process in a tick, and the letter that several ticks show.
use Rattle.std.specs.Prelude.{ℕ, zero, suc, Bool, true, false, List, [], ◌∷◌, Option, Some, None, if◌then◌else◌, nat_eq, nat_le, slice_get}
use Rattle.machine_semantics.specs.Image.{Image, Script}
use Rattle.machine_semantics.specs.State.{Thread, Idle, Ready, Waiting, State}
use Rattle.machine_semantics.specs.Tick.{pick}
use Rattle.vm_stretch.specs.RowLaws.{begun}
use Rattle.vm_stretch.specs.Stretch.{place_of}
use Rattle.run_chart.specs.declared.letter.Letter.{Letter}
use Rattle.run_chart.specs.declared.letter.Letter.TheVariants.{Inside, Outside, Overhead, HeldUp, Waits, Blank}

-- ---- in a tick

-- of a process that is picked: with burn ticks left, or inside a monitor, or inside none
abbrev pub letter_of_picked : (dispatch_ticks : ℕ) (inside : Option ℕ) → Letter
letter_of_picked (suc n) inside = Overhead
letter_of_picked zero (Some m) = Inside
letter_of_picked zero None = Outside

-- of a process that stands so, and is picked or not
abbrev pub letter_of : Option Thread → (picked : Bool) → Letter
letter_of (Some (Ready job)) true = letter_of_picked job.dispatch_ticks job.inside
letter_of (Some (Ready job)) false = HeldUp
letter_of (Some (Waiting condition due number job)) picked = Waits
letter_of (Some Idle) picked = Blank
letter_of None picked = Blank

-- process k is the one that is picked
abbrev pub is_picked : Option ℕ → (k : ℕ) → Bool
is_picked (Some j) k = nat_eq j k
is_picked None k = false

-- of process k, by the state before the tick of the process that is picked
abbrev pub letter_in : Image → State → (k : ℕ) → Letter
letter_in image s k = letter_of (slice_get s.threads k) (is_picked (place_of (pick image s.threads)) k)

-- in tick t of a run: after its start events
abbrev pub letter_at : Image → Script → (k t : ℕ) → Letter
letter_at image script k t = letter_in image (begun image script t) k

-- ---- in several ticks

-- the place of a letter among the six
abbrev pub order : Letter → ℕ
order Inside = 0
order Outside = 1
order Overhead = 2
order HeldUp = 3
order Waits = 4
order Blank = 5

abbrev pub first_of_two : Letter → Letter → Letter
first_of_two a b = if nat_le (order a) (order b) then a else b

-- the first of the six that is among these
abbrev pub first_of : List Letter → Letter
first_of [] = Blank
first_of (letter ∷ letters) = first_of_two letter (first_of letters)

-- how a letter is drawn: as m, #, o, a full stop, w or a blank
abbrev pub drawn : Letter → ℕ
drawn Inside = 109
drawn Outside = 35
drawn Overhead = 111
drawn HeldUp = 46
drawn Waits = 119
drawn Blank = 32
