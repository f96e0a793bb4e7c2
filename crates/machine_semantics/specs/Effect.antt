-- The table of the instructions: the effect of each.
--
-- An instruction is stuck where an operand is missing or of the wrong kind (a counter for a value,
-- or a value for a counter), where there is no such word, routine, condition, device or address (a
-- negative number names nothing, a monitor neither), where the limit of a wait or the number of an
-- exception is negative, where there is no call to come back from, where a word of a monitor is
-- touched or a monitor left by a process that is not inside that monitor, and where a monitor is
-- entered that somebody is inside, or by a process that is inside one. In every other case it has
-- the effect that its row says, or raises an exception.
use Rattle.std.specs.Prelude.{◌+◌, ◌-◌, ◌++◌, ◌&&◌, ◌||◌, ℕ, zero, suc, Bool, true, false, not, ℤ, pos, negsuc, ◌+ℤ◌, ◌-ℤ◌, int_lt, int_le, nat_lt, nat_le, List, [], ◌∷◌, Option, Some, None, if◌then◌else◌, slice_get, slice_set, unsigned_abs}
use Rattle.machine_isa.specs.declared.instr.Instr.{Instr}
use Rattle.machine_isa.specs.declared.instr.Instr.TheVariants as i
use Rattle.base.specs.declared.event.Act.{Act}
use Rattle.base.specs.declared.event.Act.TheVariants as act
use Rattle.base.specs.Words.{Answer, word, raised, sum, difference, product, negated, quotient, remainder, of_bool, is_true, is_zero, same, within}
use Rattle.machine_semantics.specs.Image.{Image, Monitor, Routine}
use Rattle.machine_semantics.specs.State.{Operand, Value, Counter, Caller, Job, State, is_free, is_inside, zeros}

-- what an instruction changes: the activation, the words that its process keeps, and the words of
-- all monitors
pub record Own : Type 0 where
  pub job : Job
  pub owned : List ℤ
  pub shared : List ℤ

-- what an instruction comes to
pub data Outcome : Type 0 where
  -- nothing that others see
  Goes : (own : Own) → Outcome
  -- an act, which changes nothing more
  Does : (act : Act) (own : Own) → Outcome
  -- takes the first process, or all, out of the condition's queue
  Signals : (condition : ℕ) (own : Own) → Outcome
  Broadcasts : (condition : ℕ) (own : Own) → Outcome
  -- has left the monitor, and waits on the condition with a limit in ticks and the number that a
  -- time-out raises
  Waits : (condition limit number : ℕ) (own : Own) → Outcome
  -- raises an exception: no word is changed
  Raises : (number : ℕ) → Outcome
  -- the activation is over
  Ends : Outcome
  -- there is no effect
  Stuck : Outcome

-- ---- operands

-- with these operands in place of its own
abbrev pub holding : List Operand → Own → Own
holding operands o = record o { job = record (o.job) { operands = operands } }

-- with one more operand, a value
abbrev pub give : ℤ → Own → Own
give z o = holding (Value z ∷ o.job.operands) o

-- takes the top operand, which has to be a value
abbrev pub take_one : List Operand → Own → (ℤ → Own → Outcome) → Outcome
take_one (Value x ∷ rest) o go = go x (holding rest o)
take_one (Counter n ∷ rest) o go = Stuck
take_one [] o go = Stuck

-- goes on with the value of the top operand, taken
abbrev pub one : Own → (ℤ → Own → Outcome) → Outcome
one o go = take_one o.job.operands o go

-- goes on with the values of the two top operands, taken; the first of them was given first
abbrev pub two : Own → (ℤ → ℤ → Own → Outcome) → Outcome
two o go = one o (λ y p. one p (λ x q. go x y q))

-- gives the word that an operation comes to, or raises
abbrev pub answer : Answer → Own → Outcome
answer (word z) o = Goes (give z o)
answer (raised number) o = Raises number

-- ---- words

-- the word with this number, if there is one
abbrev pub word_at : List ℤ → ℤ → Option ℤ
word_at words (pos n) = slice_get words n
word_at words (negsuc n) = None

-- gives the word, if it is there
abbrev pub load : Option ℤ → Own → Outcome
load (Some z) o = Goes (give z o)
load None o = Stuck

-- with a value in a local
abbrev pub set_local : ℤ → ℤ → Own → Own
set_local (pos n) z o = record o { job = record (o.job) { locals = slice_set o.job.locals n z } }
set_local (negsuc n) z o = o

-- with a value in a word of the process
abbrev pub set_own : ℤ → ℤ → Own → Own
set_own (pos n) z o = record o { owned = slice_set o.owned n z }
set_own (negsuc n) z o = o

-- with a value in a word of a monitor
abbrev pub set_shared : ℤ → ℤ → Own → Own
set_shared (pos n) z o = record o { shared = slice_set o.shared n z }
set_shared (negsuc n) z o = o

-- has stored, if the word is there
abbrev pub store : Option ℤ → Own → Outcome
store (Some old) o = Goes o
store None o = Stuck

-- the word is one of the monitor's
abbrev pub is_among : Monitor → ℤ → Bool
is_among m (pos n) = nat_le m.base n && nat_lt n (m.base + m.words)
is_among m (negsuc n) = false

-- there is such a monitor, and the word is one of its
abbrev pub is_among_some : Option Monitor → ℤ → Bool
is_among_some (Some m) w = is_among m w
is_among_some None w = false

-- the word is one of the monitor that the process is inside
abbrev pub is_reached : Image → Option ℕ → ℤ → Bool
is_reached image None w = false
is_reached image (Some m) w = is_among_some (slice_get image.monitors m) w

-- gives a word of the monitor that the process is inside
abbrev pub load_mon : Image → ℤ → Own → Outcome
load_mon image w o = if is_reached image o.job.inside w then load (word_at o.shared w) o else Stuck

-- stores into a word of the monitor that the process is inside
abbrev pub store_mon : Image → ℤ → ℤ → Own → Outcome
store_mon image w z o = if is_reached image o.job.inside w then store (word_at o.shared w) (set_shared w z o) else Stuck

-- goes on with the word of an element of an array, which stands from word w on and whose indices
-- are low, low + 1 and so on, len of them; an index outside raises 3
abbrev pub element : ℤ → ℤ → ℤ → ℤ → (ℤ → Outcome) → Outcome
element w low len index go = if int_le (pos 0) (index -ℤ low) && int_lt (index -ℤ low) len then go (w +ℤ (index -ℤ low)) else Raises 3

-- ---- places, loops and calls

-- goes on at the address
abbrev pub go_to : ℤ → Own → Outcome
go_to (pos t) o = Goes (record o { job = record (o.job) { place = t } })
go_to (negsuc n) o = Stuck

-- a loop's counter, with all its turns
abbrev pub count_from : ℤ → Own → Outcome
count_from (pos n) o = Goes (holding (Counter n ∷ o.job.operands) o)
count_from (negsuc n) o = Stuck

-- the counter less 1: above 0 it is kept and the loop's body is next, at 0 it is dropped
abbrev pub count_down : List Operand → ℤ → Own → Outcome
count_down (Counter (suc (suc n)) ∷ rest) t o = go_to t (holding (Counter (suc n) ∷ rest) o)
count_down (Counter (suc zero) ∷ rest) t o = Goes (holding rest o)
count_down (Counter zero ∷ rest) t o = Stuck
count_down (Value x ∷ rest) t o = Stuck
count_down [] t o = Stuck

-- leaves a loop early: its counter is dropped
abbrev pub drop_counter : List Operand → ℤ → Own → Outcome
drop_counter (Counter n ∷ rest) t o = go_to t (holding rest o)
drop_counter (Value x ∷ rest) t o = Stuck
drop_counter [] t o = Stuck

-- takes n values, and puts each before those taken so far, so that they stand in the order in which
-- they were given; with the operands left
abbrev pub arguments : ℕ → List Operand → List ℤ → Option (List ℤ × List Operand)
arguments zero operands taken = Some (taken, operands)
arguments (suc n) (Value x ∷ operands) taken = arguments n operands (x ∷ taken)
arguments (suc n) (Counter c ∷ operands) taken = None
arguments (suc n) [] taken = None

-- a new frame: the arguments, then zeros, and no operands
abbrev pub called : Routine → Option (List ℤ × List Operand) → Own → Outcome
called r None o = Stuck
called r (Some taken) o =
    Goes (record o {
      job = record (o.job) {
        place = r.start;
        locals = taken.0 ++ zeros (r.locals - r.params);
        operands = [];
        callers = record { back = o.job.place; locals = o.job.locals; operands = taken.1 } ∷ o.job.callers;
      };
    })

-- takes the routine's arguments, and is in its frame
abbrev pub call : Option Routine → Own → Outcome
call None o = Stuck
call (Some r) o = called r (arguments r.params o.job.operands []) o

-- back in the caller's frame, where it goes on
abbrev pub back : List Caller → Own → (Own → Own) → Outcome
back [] o go = Stuck
back (c ∷ cs) o go = Goes (go (record o { job = record (o.job) { place = c.back; locals = c.locals; operands = c.operands; callers = cs } }))

-- the routine with this number, if there is one
abbrev pub routine : Image → ℤ → Option Routine
routine image (pos r) = slice_get image.routines r
routine image (negsuc n) = None

-- ---- monitors, conditions, devices

-- enters a monitor that is free, or is not; the process is inside none, or in one
abbrev pub enters : Bool → Option ℕ → ℕ → Own → Outcome
enters true None m o = Does (act.Enter m) (record o { job = record (o.job) { inside = Some m } })
enters true (Some n) m o = Stuck
enters false inside m o = Stuck

-- enters the monitor, which has to be free, while the process has to be inside none
abbrev pub enter : Image → State → ℤ → Own → Outcome
enter image s (pos m) o = enters (is_free m s.threads) o.job.inside m o
enter image s (negsuc n) o = Stuck

-- leaves a monitor that the process is inside, or is not
abbrev pub leaves : Bool → ℕ → Own → Outcome
leaves true m o = Does (act.Leave m) (record o { job = record (o.job) { inside = None } })
leaves false m o = Stuck

-- leaves the monitor, which the process has to be inside
abbrev pub leave : ℤ → Own → Outcome
leave (pos m) o = leaves (is_inside m o.job.inside) m o
leave (negsuc n) o = Stuck

-- the monitor of the condition, if there is such a condition
abbrev pub monitor_of : Image → ℤ → Option ℕ
monitor_of image (pos c) = slice_get image.conditions c
monitor_of image (negsuc n) = None

-- waits outside the condition's monitor, which the process was inside, or was not; neither limit
-- nor number is negative
abbrev pub waits : Bool → ℤ → ℤ → ℤ → Own → Outcome
waits true c (pos limit) (pos number) o = Waits (unsigned_abs c) limit number (record o { job = record (o.job) { inside = None } })
waits true c (pos limit) (negsuc n) o = Stuck
waits true c (negsuc n) number o = Stuck
waits false c limit number o = Stuck

-- leaves the condition's monitor, which the process has to be inside, and waits
abbrev pub wait : Option ℕ → ℤ → ℤ → ℤ → Own → Outcome
wait (Some m) c limit number o = waits (is_inside m o.job.inside) c limit number o
wait None c limit number o = Stuck

-- the queue of the condition, if there is such a condition
abbrev pub queue : State → ℤ → Option (List ℕ)
queue s (pos c) = slice_get s.queues c
queue s (negsuc n) = None

-- takes out the first process that waits
abbrev pub signal : Option (List ℕ) → ℤ → Own → Outcome
signal (Some waiting) c o = Signals (unsigned_abs c) o
signal None c o = Stuck

-- takes out all processes that wait
abbrev pub broadcast : Option (List ℕ) → ℤ → Own → Outcome
broadcast (Some waiting) c o = Broadcasts (unsigned_abs c) o
broadcast None c o = Stuck

-- nobody waits
abbrev pub is_none_waiting : List ℕ → Bool
is_none_waiting [] = true
is_none_waiting (k ∷ ks) = false

-- gives 1 where nobody waits, else 0
abbrev pub empty : Option (List ℕ) → ℤ → Own → Outcome
empty (Some waiting) c o = Does (act.Empty (unsigned_abs c) (is_none_waiting waiting)) (give (of_bool (is_none_waiting waiting)) o)
empty None c o = Stuck

-- gives what the script set last
abbrev pub get : Option ℤ → ℤ → Own → Outcome
get (Some value) device o = Does (act.Get (unsigned_abs device) value) (give value o)
get None device o = Stuck

-- puts the value: no state changes
abbrev pub put : Option ℤ → ℤ → ℤ → Own → Outcome
put (Some old) device value o = Does (act.Put (unsigned_abs device) value) o
put None device value o = Stuck

-- ---- exceptions

-- raises the exception, whose number is not negative
abbrev pub raise : ℤ → Outcome
raise (pos number) = Raises number
raise (negsuc n) = Stuck

-- ---- the table

-- the effect of an instruction, in its last tick; its process stands at the next instruction
-- already
abbrev pub effect : Image → State → Instr → Own → Outcome
effect image s (i.Push value) o = Goes (give value o)
effect image s (i.LoadLocal w) o = load (word_at o.job.locals w) o
effect image s (i.StoreLocal w) o = one o (λ x p. store (word_at p.job.locals w) (set_local w x p))
effect image s (i.LoadOwn w) o = load (word_at o.owned w) o
effect image s (i.StoreOwn w) o = one o (λ x p. store (word_at p.owned w) (set_own w x p))
effect image s (i.LoadMon w) o = load_mon image w o
effect image s (i.StoreMon w) o = one o (λ x p. store_mon image w x p)
effect image s (i.LoadLocalAt w low len) o = one o (λ x p. element w low len x (λ e. load (word_at p.job.locals e) p))
effect image s (i.StoreLocalAt w low len) o = two o (λ x y p. element w low len x (λ e. store (word_at p.job.locals e) (set_local e y p)))
effect image s (i.LoadOwnAt w low len) o = one o (λ x p. element w low len x (λ e. load (word_at p.owned e) p))
effect image s (i.StoreOwnAt w low len) o = two o (λ x y p. element w low len x (λ e. store (word_at p.owned e) (set_own e y p)))
effect image s (i.LoadMonAt w low len) o = one o (λ x p. element w low len x (λ e. load_mon image e p))
effect image s (i.StoreMonAt w low len) o = two o (λ x y p. element w low len x (λ e. store_mon image e y p))
effect image s i.Neg o = one o (λ x p. answer (negated x) p)
effect image s i.Not o = one o (λ x p. Goes (give (of_bool (is_zero x)) p))
effect image s i.And o = two o (λ x y p. Goes (give (of_bool (is_true x && is_true y)) p))
effect image s i.Or o = two o (λ x y p. Goes (give (of_bool (is_true x || is_true y)) p))
effect image s i.Add o = two o (λ x y p. answer (sum x y) p)
effect image s i.Sub o = two o (λ x y p. answer (difference x y) p)
effect image s i.Eq o = two o (λ x y p. Goes (give (of_bool (same x y)) p))
effect image s i.Ne o = two o (λ x y p. Goes (give (of_bool (not (same x y))) p))
effect image s i.Lt o = two o (λ x y p. Goes (give (of_bool (int_lt x y)) p))
effect image s i.Le o = two o (λ x y p. Goes (give (of_bool (int_le x y)) p))
effect image s i.Gt o = two o (λ x y p. Goes (give (of_bool (int_lt y x)) p))
effect image s i.Ge o = two o (λ x y p. Goes (give (of_bool (int_le y x)) p))
effect image s i.Mul o = two o (λ x y p. answer (product x y) p)
effect image s i.Div o = two o (λ x y p. answer (quotient x y) p)
effect image s i.Mod o = two o (λ x y p. answer (remainder x y) p)
effect image s (i.Range low high) o = one o (λ x p. if within low high x then Goes (give x p) else Raises 3)
effect image s (i.JumpZero t) o = one o (λ x p. if is_zero x then go_to t p else Goes p)
effect image s (i.Jump t) o = go_to t o
effect image s (i.Repeats turns) o = count_from turns o
effect image s (i.Repeat t) o = count_down o.job.operands t o
effect image s (i.Exit t) o = one o (λ x p. if is_zero x then Goes p else drop_counter p.job.operands t p)
effect image s (i.Call r) o = call (routine image r) o
effect image s i.Return o = back o.job.callers o (λ p. p)
effect image s i.ReturnValue o = one o (λ x p. back p.job.callers p (give x))
effect image s (i.Enter m) o = enter image s m o
effect image s (i.Leave m) o = leave m o
effect image s (i.Wait c limit number) o = wait (monitor_of image c) c limit number o
effect image s (i.Reenter m) o = enter image s m o
effect image s (i.Signal c) o = signal (queue s c) c o
effect image s (i.Broadcast c) o = broadcast (queue s c) c o
effect image s (i.Empty c) o = empty (queue s c) c o
effect image s (i.In d) o = get (word_at s.devices d) d o
effect image s (i.Out d) o = one o (λ x p. put (word_at s.devices d) d x p)
effect image s (i.Raise e) o = raise e
effect image s i.End o = Ends
