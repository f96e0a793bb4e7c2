-- What the law of runs under earliest deadline first asks of a run.
use Rattle.std.specs.Prelude.{◌≡◌, ◌<◌, ℕ, false, Option, Some, None, slice_get}
use Rattle.machine_semantics.specs.Image.{Image, Script}
use Rattle.machine_semantics.specs.State.{Thread, Idle, Ready, Waiting, State}
use Rattle.machine_semantics.specs.Starts.{starts}
use Rattle.machine_semantics.specs.Walk.{Where}
use Rattle.machine_semantics.specs.Safe.{Parts, ImageFits}
use Rattle.machine_semantics.specs.Queues.{AreQueued}
use Rattle.edf_semantics.specs.Run.{tick, state_at}
use Rattle.edf_semantics.specs.Safe.{IsWaitless}

abbrev pub IsNotWaiting : Option Thread → Type 0
IsNotWaiting None = Unit {0}
IsNotWaiting (Some Idle) = Unit {0}
IsNotWaiting (Some (Ready job)) = Unit {0}
IsNotWaiting (Some (Waiting condition due number job)) = ⊥

abbrev pub NobodyWaits : State → Type 0
NobodyWaits s = (k : ℕ) → IsNotWaiting (slice_get s.threads k)

-- no tick is stuck, no release finds its process unfinished, nobody waits before a tick, and after
-- its start events the queues hold those who wait
pub record IsKept (image : Image) (script : Script) : Type 0 where
  pub never_stuck : (t : ℕ) → t < script.end_tick → (tick image script t (state_at image script t)).stuck ≡ false
  pub no_overrun : (t : ℕ) → t < script.end_tick → (tick image script t (state_at image script t)).overrun ≡ false
  pub calm : (t : ℕ) → t < script.end_tick → NobodyWaits (state_at image script t).state
  pub queued_started : (t : ℕ) → t < script.end_tick → AreQueued (starts image script t (state_at image script t).state).state

-- no release finds its process unfinished
abbrev pub HasNoOverrun : Image → Script → Type 0
HasNoOverrun image script = (t : ℕ) → t < script.end_tick → (tick image script t (state_at image script t)).overrun ≡ false

-- before tick t and after its start events nobody waits, and the queues hold those who wait
pub record IsAwake (image : Image) (script : Script) (t : ℕ) : Type 0 where
  pub calm : NobodyWaits (state_at image script t).state
  pub calm_started : NobodyWaits (starts image script t (state_at image script t).state).state
  pub queued : AreQueued (state_at image script t).state
  pub queued_started : AreQueued (starts image script t (state_at image script t).state).state

-- The law: so it is at each tick of a run of an image that fits its trees and waits nowhere.
abbrev pub WaitlessRunsAreAwake : Type 0
WaitlessRunsAreAwake = (e : Where) (ps : ℕ → Parts) (script : Script) (t : ℕ) → ImageFits e ps → IsWaitless e ps → IsAwake e.image script t

-- The law: each run, without overrun, of an image that fits its trees and waits nowhere, is kept.
abbrev pub WaitlessRunsAreKept : Type 0
WaitlessRunsAreKept = (e : Where) (ps : ℕ → Parts) (script : Script) → ImageFits e ps → IsWaitless e ps → HasNoOverrun e.image script → IsKept e.image script
