-- Ticks of a turn, in each of which all processes stand alike.
use Rattle.std.specs.Prelude.{◌≡◌, ◌≤◌, ◌<◌, ℕ, Bool, Option, Some, nat_lt, slice_get}
use Rattle.machine_semantics.specs.Image.{Image, Script}
use Rattle.machine_semantics.specs.State.{Job, Thread, Ready, State}
use Rattle.machine_semantics.specs.Tick.{pick}
use Rattle.vm_stretch.specs.RowLaws.{begun}
use Rattle.vm_stretch.specs.Stretch.{place_of}

-- the activation has ticks of dispatch to burn
abbrev pub burns : Job → Bool
burns job = nat_lt 0 job.dispatch_ticks

-- a process that is ready is so again, inside the same monitor or none, and burns or does not as
-- before; any other stands just as before
abbrev pub StandsAlike : (before after : Option Thread) → Type 0
StandsAlike (Some (Ready job)) (Some (Ready new)) = (new.inside ≡ job.inside) × (burns new ≡ burns job)
StandsAlike before after = after ≡ before

-- each does, and the same process is picked
pub record AreAlike (image : Image) (before after : State) : Type 0 where
  pub picked : place_of (pick image after.threads) ≡ place_of (pick image before.threads)
  pub threads : (k : ℕ) → StandsAlike (slice_get before.threads k) (slice_get after.threads k)

-- after the start events of each tick from t up to before u all stand as in tick t
abbrev pub StayAlike : Image → Script → (t u : ℕ) → Type 0
StayAlike image script t u = (v : ℕ) → t ≤ v → v < u → AreAlike image (begun image script t) (begun image script v)
