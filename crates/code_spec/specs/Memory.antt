-- The words of the machine hold the memory of the source.
use Rattle.std.specs.Prelude.{◌≡◌, ℕ, ◌+◌, ◌<◌, ◌≤◌, ◌⊎◌, Bool, true, false, List, [], ◌∷◌, Option, Some, None, ℤ, pos, length, slice_get}
use Rattle.syntax_tree.specs.Plain.{Name, Program, Process}
use Rattle.source_semantics.specs.Store.{Held, one, many, Slot, Vars}
use Rattle.source_semantics.specs.Run.{Memory, Calls, Site}
use Rattle.machine_semantics.specs.Image.{Image}
use Rattle.machine_semantics.specs.State.{own_locals}
use Rattle.machine_semantics.specs.Effect.{Own, is_reached}
use Rattle.code_spec.specs.Layout.{Owner, by_program, by_process, by_monitor, home_of, Shape, single, array, size_of, Place, Area, in_frame, in_process, in_monitor, Scope, process_places, monitor_places}
use Rattle.code_spec.specs.Steps.{Words}

-- The level of each routine, which is above those of the routines that it calls; and which routines
-- the process may run.
pub record Order : Type 0 where
  pub level : Name → ℕ
  pub runs : Name → Bool

-- What is compiled, and one process of it: its text, its number, how many words its own frame has,
-- and its routines in order.
pub record Setting : Type 0 where
  pub image : Image
  pub program : Program
  pub text : Process
  pub number : ℕ
  pub frame : ℕ
  pub order : Order

-- where the source has a text
abbrev pub site_of : Setting → Scope → Calls → Site
site_of e c k = record { program = e.program; process = e.text; home = home_of c.owner; calls = k }

-- ---- words that hold variables

-- the words hold a value at a word, and the word may be reached
pub record IsAt (opens : ℕ → Type 0) (ws : List ℤ) (k : ℕ) (v : ℤ) : Type 0 where
  pub holds : slice_get ws k ≡ Some v
  pub open_to : opens k

-- the words from one on hold what a variable holds
abbrev pub HoldsHeld : (ℕ → Type 0) → List ℤ → ℕ → Shape → Held → Type 0
HoldsHeld opens ws w single (one v) = IsAt opens ws w v
HoldsHeld opens ws w (array low len) (many l vs) =
    (l ≡ low) × (length vs ≡ len) × ((k : ℕ) → k < len → (v : ℤ) × (slice_get vs k ≡ Some v) × IsAt opens ws (w + k) v)
HoldsHeld opens ws w shape held = ⊥

-- the words hold a variable where it lies
pub record HoldsSlot (opens : ℕ → Type 0) (ws : List ℤ) (p : Place) (s : Slot) : Type 0 where
  pub name : s.name ≡ p.name
  pub range : s.range ≡ p.range
  pub held : HoldsHeld opens ws p.word p.shape s.held

-- the words hold each variable where it lies
abbrev pub Holds : (ℕ → Type 0) → List ℤ → List Place → Vars → Type 0
Holds opens ws [] [] = Unit {0}
Holds opens ws (p ∷ ps) (s ∷ ss) = HoldsSlot opens ws p s × Holds opens ws ps ss
Holds opens ws ps ss = ⊥

-- the words of an area that a process inside this monitor, or none, may reach
abbrev pub opens_of : Image → Option ℕ → Area → ℕ → Type 0
opens_of image inside in_frame k = Unit {0}
opens_of image inside in_process k = Unit {0}
opens_of image inside in_monitor k = is_reached image inside (pos k) ≡ true

abbrev pub words_of : Area → Words → List ℤ
words_of in_frame w = w.locals
words_of in_process w = w.owned
words_of in_monitor w = w.shared

abbrev pub with_words : Area → Words → List ℤ → Words
with_words in_frame w ws = record w { locals = ws }
with_words in_process w ws = record w { owned = ws }
with_words in_monitor w ws = record w { shared = ws }

-- ---- places apart

abbrev pub Apart : Place → Place → Type 0
Apart p q = (p.word + size_of p.shape ≤ q.word) ⊎ (q.word + size_of q.shape ≤ p.word)

abbrev pub ApartFrom : Place → List Place → Type 0
ApartFrom p [] = Unit {0}
ApartFrom p (q ∷ qs) = Apart p q × ApartFrom p qs

-- no two places share a word
abbrev pub AllApart : List Place → Type 0
AllApart [] = Unit {0}
AllApart (p ∷ ps) = ApartFrom p ps × AllApart ps

-- all words of the places are below this one
abbrev pub AllBelow : ℕ → List Place → Type 0
AllBelow w [] = Unit {0}
AllBelow w (p ∷ ps) = (p.word + size_of p.shape ≤ w) × AllBelow w ps

-- the places of a frame are apart, and behind them there is room for the variables of so many loops
-- from a word on
pub record Room (c : Scope) (w loops : ℕ) : Type 0 where
  pub apart : AllApart c.own
  pub below : AllBelow w c.own
  pub room : w + loops ≤ c.frame

-- ---- memory

-- each loop variable holds its value of this turn; the values stand in the order of the places,
-- with anything for other variables
abbrev pub KeptAll : List Place → List ℤ → Vars → Type 0
KeptAll [] fixed [] = Unit {0}
KeptAll (p ∷ ps) (k ∷ ks) (s ∷ ss) = (p.fixed ≡ true → s.held ≡ one k) × KeptAll ps ks ss
KeptAll ps ks ss = ⊥

-- the words of a frame hold the variables of a call, where loop variables have these values
pub record FitsFrame (c : Scope) (fixed : List ℤ) (locals : List ℤ) (own : Vars) : Type 0 where
  pub holds : Holds (λ k. Unit {0}) locals c.own own
  pub size : length locals ≡ c.frame
  pub kept : KeptAll c.own fixed own

-- the places of the monitor that the process is inside
abbrev pub inside_places : Program → Option ℕ → List Place
inside_places g None = []
inside_places g (Some m) = monitor_places g m

-- the words of a process, and those of the monitor that it is inside, hold these variables
pub record FitsOthers (e : Setting) (inside : Option ℕ) (owned shared : List ℤ) (process monitor : Vars) : Type 0 where
  pub process_words : Holds (opens_of e.image inside in_process) owned (process_places e.program e.number) process
  pub monitor_words : Holds (opens_of e.image inside in_monitor) shared (inside_places e.program inside) monitor

-- the variables of the process and of the monitor as they were when a function was called, which
-- changes none of them
pub record Before : Type 0 where
  pub process : Vars
  pub monitor : Vars

abbrev pub before_of : Memory → Before
before_of m = record { process = m.process; monitor = m.monitor }

-- a function has changed neither
abbrev pub Same : Scope → Before → Memory → Type 0
Same c b m = c.is_function ≡ true → (m.process ≡ b.process) × (m.monitor ≡ b.monitor)

-- the machine's words hold the source's memory
pub record Fits (e : Setting) (o : Own) (c : Scope) (fixed : List ℤ) (b : Before) (w : Words) (m : Memory) : Type 0 where
  pub frame : FitsFrame c fixed w.locals m.own
  pub others : FitsOthers e o.job.inside w.owned w.shared m.process m.monitor
  pub same : Same c b m

-- ---- where a text may run

-- the process runs the text: its own, the program's, or that of the monitor that it is inside; what
-- is no function and no entry runs outside all monitors
abbrev pub MayRun : Setting → Option ℕ → Owner → Bool → Type 0
MayRun e inside by_program is_function = is_function ≡ false → inside ≡ None
MayRun e inside (by_process k) is_function = (k ≡ e.number) × (is_function ≡ false → inside ≡ None)
MayRun e inside (by_monitor m) is_function = inside ≡ Some m

-- the process may run the text here, and below all frames lies its own
pub record Here (e : Setting) (o : Own) (c : Scope) : Type 0 where
  pub may_run : MayRun e o.job.inside c.owner c.is_function
  pub frame : (locals : List ℤ) → length locals ≡ c.frame → length (own_locals locals o.job.callers) ≡ e.frame
