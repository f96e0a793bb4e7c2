-- The operands of instructions, and what an instruction may touch and call.
use Rattle.std.specs.Prelude.{◌+◌, ◌&&◌, ◌||◌, not, ℕ, Bool, true, false, cond, ℤ, pos, negsuc, ◌+ℤ◌, ◌-ℤ◌, int_le, length, Option, Some, None, nat_eq, nat_lt, nat_le, slice_get}
use Rattle.std.specs.Int.{w32, cast_unsigned}
use Rattle.machine_isa.specs.declared.instr.Instr.{Instr}
use Rattle.machine_isa.specs.declared.instr.Instr.TheVariants as i
use Rattle.base.specs.Words.{is_word}
use Rattle.machine_semantics.specs.Image.{Image, Monitor, Routine, Process}
use Rattle.valid_image.specs.Fault.{Fault, or_else, first_of, of_some, first_in}
use Rattle.valid_image.specs.Pieces.{belongs, piece_number}
use Rattle.valid_image.specs.Tables.{reach, bound_at}

-- whose code it is: of a routine with its kind and owner, or of a process, which counts as a
-- routine of its own above all others
pub record Whose : Type 0 where
  pub number : ℕ
  pub kind : ℕ
  pub owner : ℕ
  pub locals : ℕ

abbrev pub whose_routine : ℕ → Routine → Whose
whose_routine r x = record { number = r; kind = x.kind; owner = x.owner; locals = x.locals }

abbrev pub whose_process : Image → ℕ → Process → Whose
whose_process image k p = record { number = length image.routines; kind = 1; owner = k; locals = p.locals }

-- ---- numbers in their range

-- words that stand in a row
pub record Area : Type 0 where
  pub base : ℕ
  pub words : ℕ

abbrev pub no_words : Area
no_words = record { base = 0; words = 0 }

abbrev pub is_between : (low high : ℕ) → ℤ → Bool
is_between low high (pos n) = nat_le low n && nat_le n high
is_between low high (negsuc n) = false

-- the word is one of the area
abbrev pub in_area : Area → ℤ → Bool
in_area x (pos w) = nat_le x.base w && nat_lt w (x.base + x.words)
in_area x (negsuc w) = false

-- so many words from one on end in the area
abbrev pub ends_in : Area → (word len : ℤ) → Bool
ends_in x (pos w) (pos n) = nat_le (w + n) (x.base + x.words)
ends_in x _ _ = false

abbrev pub local_words : Whose → Area
local_words w = record { base = 0; words = w.locals }

abbrev pub words_of_process : Option Process → Area
words_of_process (Some p) = record { base = 0; words = p.words }
words_of_process None = no_words

abbrev pub words_of_monitor : Option Monitor → Area
words_of_monitor (Some m) = record { base = m.base; words = m.words }
words_of_monitor None = no_words

-- the words of the owning process; routines of the program and entries have none
abbrev pub own_words : Image → Whose → Area
own_words image w = cond (nat_eq w.kind 1) (words_of_process (slice_get image.processes w.owner)) no_words

-- the words of the owning monitor; other code than entries has none
abbrev pub monitor_words : Image → Whose → Area
monitor_words image w = cond (nat_eq w.kind 2) (words_of_monitor (slice_get image.monitors w.owner)) no_words

-- the monitor is the owner
abbrev pub is_own_monitor : Whose → ℤ → Bool
is_own_monitor w (pos m) = nat_eq w.kind 2 && nat_eq m w.owner
is_own_monitor w (negsuc m) = false

abbrev pub is_same : ℕ → Option ℕ → Bool
is_same m None = false
is_same m (Some n) = nat_eq n m

-- the condition is one of the owner's
abbrev pub is_own_condition : Image → Whose → ℤ → Bool
is_own_condition image w (pos c) = nat_eq w.kind 2 && is_same w.owner (slice_get image.conditions c)
is_own_condition image w (negsuc c) = false

-- there is such a device, and it goes the same way
abbrev pub goes : (out : Bool) → Option Bool → Bool
goes out None = false
goes true (Some out) = out
goes false (Some out) = not out

abbrev pub is_device : Image → (out : Bool) → ℤ → Bool
is_device image out (pos d) = goes out (slice_get image.devices d)
is_device image out (negsuc d) = false

-- ---- calls

-- a routine of a process is called from that process alone
abbrev pub is_open : Whose → Routine → Bool
is_open w x = not (nat_eq x.kind 1) || (nat_eq w.kind 1 && nat_eq x.owner w.owner)

-- an entry calls neither entries nor routines of processes, nor what reaches one
abbrev pub may_be_inside : Image → Whose → ℕ → Bool
may_be_inside image w r = not (nat_eq w.kind 2 && bound_at (reach image) r)

abbrev pub is_open_some : Whose → Option Routine → Bool
is_open_some w None = false
is_open_some w (Some x) = is_open w x

-- the routine stands below the caller
abbrev pub may_call : Image → Whose → ℤ → Bool
may_call image w (pos r) = nat_lt r w.number && is_open_some w (slice_get image.routines r) && may_be_inside image w r
may_call image w (negsuc r) = false

-- ---- one instruction

-- the operand, unless the test passes
abbrev pub bad : Bool → ℤ → Option ℤ
bad true z = None
bad false z = Some z

-- the words of an array; where the word and the length are in range by themselves, and not what
-- they come to, the word is shown
abbrev pub bad_array : Area → (word low len : ℤ) → Option ℤ
bad_array x w low len = or_else (bad (in_area x w) w) (or_else (bad (is_between 1 65536 len) len) (bad (ends_in x w len && is_word ((low +ℤ len) -ℤ pos 1)) w))

-- the numbers that a program may raise
abbrev pub is_user_number : ℤ → Bool
is_user_number e = is_between 10 999 e

-- the operand that breaks a rule: the first that is out of range by itself, else the first
abbrev pub bad_operand : Image → Whose → Instr → Option ℤ
bad_operand image w (i.LoadLocal word) = bad (in_area (local_words w) word) word
bad_operand image w (i.StoreLocal word) = bad (in_area (local_words w) word) word
bad_operand image w (i.LoadOwn word) = bad (in_area (own_words image w) word) word
bad_operand image w (i.StoreOwn word) = bad (in_area (own_words image w) word) word
bad_operand image w (i.LoadMon word) = bad (in_area (monitor_words image w) word) word
bad_operand image w (i.StoreMon word) = bad (in_area (monitor_words image w) word) word
bad_operand image w (i.LoadLocalAt word low len) = bad_array (local_words w) word low len
bad_operand image w (i.StoreLocalAt word low len) = bad_array (local_words w) word low len
bad_operand image w (i.LoadOwnAt word low len) = bad_array (own_words image w) word low len
bad_operand image w (i.StoreOwnAt word low len) = bad_array (own_words image w) word low len
bad_operand image w (i.LoadMonAt word low len) = bad_array (monitor_words image w) word low len
bad_operand image w (i.StoreMonAt word low len) = bad_array (monitor_words image w) word low len
bad_operand image w (i.Range low high) = bad (int_le low high) low
bad_operand image w (i.Repeats n) = bad (is_between 1 1000000 n) n
bad_operand image w (i.Call r) = bad (may_call image w r) r
bad_operand image w (i.Enter m) = bad (is_own_monitor w m) m
bad_operand image w (i.Leave m) = bad (is_own_monitor w m) m
bad_operand image w (i.Wait c limit number) = or_else (bad (is_own_condition image w c) c) (or_else (bad (is_between 1 1000000000 limit) limit) (bad (is_user_number number) number))
bad_operand image w (i.Reenter m) = bad (is_own_monitor w m) m
bad_operand image w (i.Signal c) = bad (is_own_condition image w c) c
bad_operand image w (i.Broadcast c) = bad (is_own_condition image w c) c
bad_operand image w (i.Empty c) = bad (is_own_condition image w c) c
bad_operand image w (i.In d) = bad (is_device image false d) d
bad_operand image w (i.Out d) = bad (is_device image true d) d
bad_operand image w (i.Raise number) = bad (is_between 4 4 number || is_user_number number) number
bad_operand image w _ = None

-- ---- the part

-- the address and the operand, a negative one as its value plus 2^32
abbrev pub shown_operand : ℕ → Option ℤ → Option Fault
shown_operand a None = None
shown_operand a (Some z) = Some (record { a = a; b = cast_unsigned w32 z })

-- the instruction at the address, where that belongs to the piece
abbrev pub operand_fault_at : Image → (piece : ℕ) → Whose → ℕ → Option Fault
operand_fault_at image k w a = cond (belongs image k a) (of_some (λ instr. shown_operand a (bad_operand image w instr)) (slice_get image.code a)) None

-- the first address of the piece
abbrev pub operand_fault_in : Image → (piece : ℕ) → Whose → Option Fault
operand_fault_in image k w = first_of (operand_fault_at image k w) (length image.code) 0

abbrev pub routines_operand_fault : Image → Option Fault
routines_operand_fault image = first_in (λ r x. operand_fault_in image r (whose_routine r x)) image.routines

abbrev pub processes_operand_fault : Image → Option Fault
processes_operand_fault image = first_in (λ k p. operand_fault_in image (piece_number image k) (whose_process image k p)) image.processes

-- the first instruction that breaks a rule: routines come before processes
abbrev pub operand_fault : Image → Option Fault
operand_fault image = or_else (routines_operand_fault image) (processes_operand_fault image)
