-- What the operands of an instruction have to be, in the code of a routine or of a process.
use Rattle.std.specs.Prelude.{◌≡◌, ◌≤◌, ◌<◌, ◌+◌, ◌-ℤ◌, ◌+ℤ◌, ◌≤ℤ◌, ◌⊎◌, ℕ, Bool, true, false, ℤ, pos, Some, slice_get}
use Rattle.machine_isa.specs.declared.instr.Instr.{Instr}
use Rattle.machine_isa.specs.declared.instr.Instr.TheVariants as i
use Rattle.base.specs.Words.{is_word}
use Rattle.machine_semantics.specs.Image.{Image, Routine}
use Rattle.valid_image.specs.Operands.{Whose, Area, local_words, own_words, monitor_words}
use Rattle.valid_image_law.specs.Reached.{ReachesBound}

-- ---- numbers

-- from low to high
pub record IsBetween (low high : ℕ) (z : ℤ) : Type 0 where
  pub number : ℕ
  pub is : z ≡ pos number
  pub from : low ≤ number
  pub to : number ≤ high

-- a word of the area
pub record IsIn (x : Area) (z : ℤ) : Type 0 where
  pub word : ℕ
  pub is : z ≡ pos word
  pub from : x.base ≤ word
  pub to : word < x.base + x.words

-- an array: one to 65,536 words, all in the area, and its last index is a number of 32 bits
pub record IsArray (x : Area) (word low len : ℤ) : Type 0 where
  pub at : ℕ
  pub many : ℕ
  pub word_is : word ≡ pos at
  pub len_is : len ≡ pos many
  pub from : x.base ≤ at
  pub some : 1 ≤ many
  pub few : many ≤ 65536
  pub to : at + many ≤ x.base + x.words
  pub last_index : is_word ((low +ℤ len) -ℤ pos 1) ≡ true

-- ---- things of the owner

-- code of an entry, and the monitor is its own
pub record IsOwnMonitor (w : Whose) (z : ℤ) : Type 0 where
  pub entry : w.kind ≡ 2
  pub own : z ≡ pos w.owner

-- code of an entry, and the condition is one of its monitor
pub record IsOwnCondition (image : Image) (w : Whose) (z : ℤ) : Type 0 where
  pub entry : w.kind ≡ 2
  pub condition : ℕ
  pub is : z ≡ pos condition
  pub own : slice_get image.conditions condition ≡ Some w.owner

-- there is such a device, for output or for input
pub record IsDevice (image : Image) (out : Bool) (z : ℤ) : Type 0 where
  pub device : ℕ
  pub is : z ≡ pos device
  pub goes : slice_get image.devices device ≡ Some out

-- There is such a routine below the caller. One of a process is called from the code of that
-- process alone, and an entry calls none of a process and no entry, and none that reaches one.
pub record MayCall (image : Image) (w : Whose) (z : ℤ) : Type 0 where
  pub number : ℕ
  pub is : z ≡ pos number
  pub below : number < w.number
  pub routine : Routine
  pub there : slice_get image.routines number ≡ Some routine
  pub of_process : routine.kind ≡ 1 → (w.kind ≡ 1) × (routine.owner ≡ w.owner)
  pub by_entry : w.kind ≡ 2 → ReachesBound image number → ⊥

-- ---- the rules

abbrev pub Fits : Image → Whose → Instr → Type 0
Fits image w (i.LoadLocal word) = IsIn (local_words w) word
Fits image w (i.StoreLocal word) = IsIn (local_words w) word
Fits image w (i.LoadOwn word) = IsIn (own_words image w) word
Fits image w (i.StoreOwn word) = IsIn (own_words image w) word
Fits image w (i.LoadMon word) = IsIn (monitor_words image w) word
Fits image w (i.StoreMon word) = IsIn (monitor_words image w) word
Fits image w (i.LoadLocalAt word low len) = IsArray (local_words w) word low len
Fits image w (i.StoreLocalAt word low len) = IsArray (local_words w) word low len
Fits image w (i.LoadOwnAt word low len) = IsArray (own_words image w) word low len
Fits image w (i.StoreOwnAt word low len) = IsArray (own_words image w) word low len
Fits image w (i.LoadMonAt word low len) = IsArray (monitor_words image w) word low len
Fits image w (i.StoreMonAt word low len) = IsArray (monitor_words image w) word low len
Fits image w (i.Range low high) = low ≤ℤ high
Fits image w (i.Repeats turns) = IsBetween 1 1000000 turns
Fits image w (i.Call routine) = MayCall image w routine
Fits image w (i.Enter monitor) = IsOwnMonitor w monitor
Fits image w (i.Leave monitor) = IsOwnMonitor w monitor
Fits image w (i.Wait condition limit number) = IsOwnCondition image w condition × IsBetween 1 1000000000 limit × IsBetween 10 999 number
Fits image w (i.Reenter monitor) = IsOwnMonitor w monitor
Fits image w (i.Signal condition) = IsOwnCondition image w condition
Fits image w (i.Broadcast condition) = IsOwnCondition image w condition
Fits image w (i.Empty condition) = IsOwnCondition image w condition
Fits image w (i.In device) = IsDevice image false device
Fits image w (i.Out device) = IsDevice image true device
Fits image w (i.Raise number) = (number ≡ pos 4) ⊎ IsBetween 10 999 number
Fits image w _ = Unit {0}
