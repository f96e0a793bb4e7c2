-- What a valid image keeps to at each instruction of a part. A part is a routine, the body or the
-- handler of a process: a piece of code that runs in one frame.
use Rattle.std.specs.Prelude.{◌≡◌, ◌≤◌, ◌<◌, ◌+◌, ℕ, zero, suc, ℤ, pos, List, [], ◌∷◌, length, Option, Some, slice_get}
use Rattle.machine_isa.specs.declared.instr.Instr.{Instr}
use Rattle.machine_isa.specs.declared.instr.Instr.TheVariants as i
use Rattle.machine_semantics.specs.Image.{Image, Monitor}
use Rattle.machine_semantics.specs.State.{Operand, Value, Counter, State}

-- what is known of a part
pub record Part : Type 0 where
  -- the words of its locals, and how many words of its process it may touch
  pub locals : ℕ
  pub owned : ℕ
  -- its monitor, if it is an entry
  pub monitor : Option ℕ
  -- the words of stack above its locals that it takes at most, with those of the routines that it
  -- calls
  pub depth : ℕ
  -- the instruction that ends it, and the operands that are left there: RET and none, RETV and one,
  -- END and none
  pub last : Instr
  pub results : ℕ
  -- 0: it enters no monitor, itself or by calls; 1: it is an entry; 2: it may call entries
  pub level : ℕ
  -- no monitor that it enters, itself or by calls, has a ceiling above this, as a number
  pub limit : ℕ
  -- the ticks that it runs from entering monitor m to leaving it at the end of the entry are at
  -- most stays m, itself or by calls
  pub stays : ℕ → ℕ

-- ---- operands by kind: values, and loop counters with their turns

-- the kind of an operand
pub data Kind : Type 0 where
  Plain : Kind
  Counts : (turns : ℕ) → Kind

-- the kind of this operand
abbrev pub kind_of : Operand → Kind
kind_of (Value z) = Plain
kind_of (Counter n) = Counts n

-- the kinds of the operands, the top one first
abbrev pub kinds : List Operand → List Kind
kinds [] = []
kinds (x ∷ xs) = kind_of x ∷ kinds xs

-- so many values on top
abbrev pub plains : ℕ → List Kind → List Kind
plains zero ks = ks
plains (suc n) ks = Plain ∷ plains n ks

-- ---- numbers in their range

-- the operand is not negative
abbrev pub IsNatural : ℤ → Type 0
IsNatural z = (n : ℕ) × (z ≡ pos n)

-- the operand is a number below n
abbrev pub IsBelow : ℤ → ℕ → Type 0
IsBelow z n = (j : ℕ) × (z ≡ pos j) × (j < n)

-- the words from w on, so many, are below n
pub record IsArray (w len : ℤ) (n : ℕ) : Type 0 where
  pub from : ℕ
  pub count : ℕ
  pub word : w ≡ pos from
  pub long : len ≡ pos count
  pub fits : from + count ≤ n

-- the words from w on, so many, are the monitor's, which is the part's own
pub record IsReached (image : Image) (monitor : Option ℕ) (w len : ℤ) : Type 0 where
  pub number : ℕ
  pub is_entry : monitor ≡ Some number
  pub mon : Monitor
  pub there : slice_get image.monitors number ≡ Some mon
  pub from : ℕ
  pub count : ℕ
  pub word : w ≡ pos from
  pub long : len ≡ pos count
  pub above : mon.base ≤ from
  pub below : from + count ≤ mon.base + mon.words

-- ---- plain instructions: those that stand in a Line

-- the instruction may stand in a Line of the part, its words, condition and device are there, and
-- the exception that it raises has a number
abbrev pub IsPlain : Image → Part → Instr → Type 0
IsPlain image part (i.Push value) = Unit {0}
IsPlain image part (i.LoadLocal w) = IsBelow w part.locals
IsPlain image part (i.StoreLocal w) = IsBelow w part.locals
IsPlain image part (i.LoadOwn w) = IsBelow w part.owned
IsPlain image part (i.StoreOwn w) = IsBelow w part.owned
IsPlain image part (i.LoadMon w) = IsReached image part.monitor w (pos 1)
IsPlain image part (i.StoreMon w) = IsReached image part.monitor w (pos 1)
IsPlain image part (i.LoadLocalAt w low len) = IsArray w len part.locals
IsPlain image part (i.StoreLocalAt w low len) = IsArray w len part.locals
IsPlain image part (i.LoadOwnAt w low len) = IsArray w len part.owned
IsPlain image part (i.StoreOwnAt w low len) = IsArray w len part.owned
IsPlain image part (i.LoadMonAt w low len) = IsReached image part.monitor w len
IsPlain image part (i.StoreMonAt w low len) = IsReached image part.monitor w len
IsPlain image part i.Neg = Unit {0}
IsPlain image part i.Not = Unit {0}
IsPlain image part i.And = Unit {0}
IsPlain image part i.Or = Unit {0}
IsPlain image part i.Add = Unit {0}
IsPlain image part i.Sub = Unit {0}
IsPlain image part i.Eq = Unit {0}
IsPlain image part i.Ne = Unit {0}
IsPlain image part i.Lt = Unit {0}
IsPlain image part i.Le = Unit {0}
IsPlain image part i.Gt = Unit {0}
IsPlain image part i.Ge = Unit {0}
IsPlain image part i.Mul = Unit {0}
IsPlain image part i.Div = Unit {0}
IsPlain image part i.Mod = Unit {0}
IsPlain image part (i.Range low high) = Unit {0}
IsPlain image part (i.JumpZero t) = ⊥
IsPlain image part (i.Jump t) = ⊥
IsPlain image part (i.Repeats n) = ⊥
IsPlain image part (i.Repeat t) = ⊥
IsPlain image part (i.Exit t) = ⊥
IsPlain image part (i.Call r) = ⊥
IsPlain image part i.Return = ⊥
IsPlain image part i.ReturnValue = ⊥
IsPlain image part (i.Enter m) = ⊥
IsPlain image part (i.Leave m) = ⊥
IsPlain image part (i.Wait c limit number) = ⊥
IsPlain image part (i.Reenter m) = ⊥
IsPlain image part (i.Signal c) = IsBelow c (length image.conditions)
IsPlain image part (i.Broadcast c) = IsBelow c (length image.conditions)
IsPlain image part (i.Empty c) = IsBelow c (length image.conditions)
IsPlain image part (i.In d) = IsBelow d (length image.devices)
IsPlain image part (i.Out d) = IsBelow d (length image.devices)
IsPlain image part (i.Raise e) = IsNatural e
IsPlain image part i.End = ⊥

-- each condition has a queue and each device a word, and the words of each monitor stand in the
-- area of all monitors
pub record IsSized (image : Image) (s : State) (words : List ℤ) : Type 0 where
  pub queues : length s.queues ≡ length image.conditions
  pub devices : length s.devices ≡ length image.devices
  pub shared : (m : ℕ) (mon : Monitor) → slice_get image.monitors m ≡ Some mon → mon.base + mon.words ≤ length words
