-- A run, seen by tick and process as the numbers that the timing argument needs, and its busy
-- stretches. The processes stand in the order of their ranks.
use Rattle.std.specs.Prelude.{◌≡◌, ◌≤◌, ◌<◌, ◌+◌, ◌*◌, ℕ, zero, suc, Bool, true, false}
use Rattle.sched_theorem.specs.Charges.{Charge, Execution, Suspension, Blocking, ChargedCost}

-- what is left of an activation: ticks of execution (0 exactly in an idle process), ticks of
-- suspension, waits that it may still begin; and 1 while it waits, else 0
pub record Life : Type 0 where
  pub run_left : ℕ
  pub suspension_left : ℕ
  pub waits_left : ℕ
  pub waiting : ℕ

-- an idle process has nothing left
pub record IsLife (a : Life) : Type 0 where
  pub no_susp : a.run_left ≡ 0 → a.suspension_left ≡ 0
  pub no_waits : a.run_left ≡ 0 → a.waits_left ≡ 0
  pub no_waiting : a.run_left ≡ 0 → a.waiting ≡ 0

-- a truth as a number
abbrev pub flag : Bool → ℕ
flag true = 1
flag false = 0

-- the start events of a tick, for a process that is a before them and b after them: a release gives
-- at most the cost of an activation; a wait may end, and none begins; nobody ends
pub record Opens (released : Bool) (cost : ChargedCost) (a b : Life) : Type 0 where
  pub run : b.run_left ≤ a.run_left + flag released * cost.run
  pub susp : b.suspension_left ≤ a.suspension_left + flag released * cost.susp
  pub waits : b.waits_left ≤ a.waits_left + flag released * cost.waits
  pub waiting : b.waiting ≤ a.waiting
  pub goes_on : 1 ≤ a.run_left → 1 ≤ b.run_left
  pub starts : released ≡ true → 1 ≤ b.run_left

-- the rest of a tick, for a process that is a before it and b after it: who waits has a tick of
-- suspension fewer after it, and who begins to wait has a wait fewer
pub record Acts (a b : Life) : Type 0 where
  pub run : b.run_left ≤ a.run_left
  pub susp : b.suspension_left + a.waiting ≤ a.suspension_left
  pub waits : b.waits_left ≤ a.waits_left
  pub begins : b.waits_left + b.waiting ≤ a.waits_left + a.waiting

-- nobody, or somebody, of the ranks below n waits, or has an activation
abbrev pub NoneWait : ℕ → (ℕ → Life) → Type 0
NoneWait n lives = (j : ℕ) → j < n → (lives j).waiting ≡ 0

abbrev pub SomeWait : ℕ → (ℕ → Life) → Type 0
SomeWait n lives = (j : ℕ) × (j < n) × (1 ≤ (lives j).waiting)

abbrev pub NoneActive : ℕ → (ℕ → Life) → Type 0
NoneActive n lives = (j : ℕ) → j < n → (lives j).run_left ≡ 0

abbrev pub SomeActive : ℕ → (ℕ → Life) → Type 0
SomeActive n lives = (j : ℕ) × (j < n) × (1 ≤ (lives j).run_left)

-- one of the ranks below n runs; where none of them waits, what is left of the stay of the lower
-- process inside a monitor is not more after it
pub record RunsOne (n rank : ℕ) (a b : ℕ → Life) (stay stay_after : ℕ) : Type 0 where
  pub of_these : rank < n
  pub falls : (b rank).run_left + 1 ≤ (a rank).run_left
  pub held : NoneWait n a → stay_after ≤ stay

-- none of the ranks below n waits, and the lower process inside a monitor has a tick of its stay
-- fewer after it
pub record IsBlocked (n : ℕ) (a : ℕ → Life) (stay stay_after : ℕ) : Type 0 where
  pub none_wait : NoneWait n a
  pub falls : stay_after + 1 ≤ stay

-- a busy tick may have this charge; where two fit, either will do
abbrev pub IsCharged : ℕ → (ℕ → Life) → (ℕ → Life) → ℕ → ℕ → Charge → Type 0
IsCharged n a b stay stay_after (Execution rank) = RunsOne n rank a b stay stay_after
IsCharged n a b stay stay_after Suspension = SomeWait n a
IsCharged n a b stay stay_after Blocking = IsBlocked n a stay stay_after

-- the activations by tick and process, before the start events of the tick and after them, and the
-- releases
pub record Trace : Type 0 where
  pub before : ℕ → ℕ → Life
  pub after : ℕ → ℕ → Life
  pub released : ℕ → ℕ → Bool

-- no activation takes more than its cost, in the ticks below an end and for the ranks below n
pub record IsRun (n : ℕ) (cost : ℕ → ChargedCost) (end : ℕ) (t : Trace) : Type 0 where
  pub whole : (k j : ℕ) → k ≤ end → j < n → IsLife (t.before k j)
  pub opens : (k j : ℕ) → k < end → j < n → Opens (t.released k j) (cost j) (t.before k j) (t.after k j)
  pub acts : (k j : ℕ) → k < end → j < n → Acts (t.after k j) (t.before (suc k) j)

-- each busy tick of the ranks below n has some charge; `stay k` is what is left before tick k of
-- the stay of the lower process that holds them up
pub record AreCharged (n most end : ℕ) (t : Trace) (stay : ℕ → ℕ) : Type 0 where
  pub stays : (k : ℕ) → k ≤ end → stay k ≤ most
  pub charged : (k : ℕ) → k < end → SomeActive n (t.after k) → (c : Charge) × IsCharged n (t.after k) (t.before (suc k)) (stay k) (stay (suc k)) c

-- two releases stand at least a frame apart
abbrev pub Spaced : ℕ → ℕ → (ℕ → Bool) → Type 0
Spaced frame end released = (k l : ℕ) → k < l → l < end → released k ≡ true → released l ≡ true → k + frame ≤ l

-- the releases in so many ticks from a start
abbrev pub releases : (ℕ → Bool) → ℕ → ℕ → ℕ
releases released start zero = 0
releases released start (suc ticks) = releases released start ticks + flag (released (start + ticks))

-- so many ticks from a start belong to one busy stretch of the ranks below n: nobody is active
-- before the start events of the first, somebody is after them, and somebody is before those of
-- each later one
pub record IsStretch (n : ℕ) (t : Trace) (start ticks : ℕ) : Type 0 where
  pub some : 0 < ticks
  pub clear : NoneActive n (t.before start)
  pub busy : SomeActive n (t.after start)
  pub goes_on : (k : ℕ) → 0 < k → k < ticks → SomeActive n (t.before (start + k))

-- the stretch that a busy tick belongs to, up to the tick
pub record Began (n : ℕ) (t : Trace) (tick : ℕ) : Type 0 where
  pub start : ℕ
  pub ticks : ℕ
  pub here : start + ticks ≡ tick
  pub stretch : IsStretch n t start (suc ticks)
