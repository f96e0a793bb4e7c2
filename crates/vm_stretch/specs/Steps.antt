-- Start events one after another.
use Rattle.std.specs.Prelude.{◌≡◌, ◌<◌, ◌+◌, ◌++◌, ◌&&◌, ℕ, false, List, [], ◌∷◌, Option, Some, None, slice_get, nat_eq, if◌then◌else◌}
use Rattle.base.specs.declared.event.Event.{Event}
use Rattle.machine_semantics.specs.Image.{Image, Process}
use Rattle.machine_semantics.specs.State.{State}
use Rattle.machine_semantics.specs.Starts.{Started, followed, release, unchanged}
use Rattle.vm_stretch.specs.StretchDue.{time_out_of}

-- the start events of `go` lead from the one state to the other, and come behind the events before,
-- with no overrun
pub record HasStarted (go : State → Started) (s : State) (es : List Event) (s' : State) (es' : List Event) : Type 0 where
  pub state : s' ≡ (go s).state
  pub events : es' ≡ es ++ (go s).events
  pub calm : (go s).overrun ≡ false

-- so far
abbrev pub so_far : State → List Event → Started
so_far s es = record { state = s; events = es; overrun = false }

-- of the start events of `go` those of `rest` are left
abbrev pub AreLeft : (State → Started) → State → List Event → (State → Started) → State → List Event → Type 0
AreLeft go s es rest s' es' = followed (so_far s' es') rest ≡ followed (so_far s es) go

-- slot n + k has the tick at which the wait of process k times out
abbrev pub HasWaits : ℕ → State → List (Option ℕ) → Type 0
HasWaits n s slots = (k : ℕ) (tick : Option ℕ) → k < n → slice_get slots (n + k) ≡ Some tick → tick ≡ time_out_of (slice_get s.threads k)

-- the numbers of the processes that the event releases; the list is that of the processes from k on
abbrev pub named : ℕ → ℕ → List Process → List ℕ
named e k [] = []
named e k (p ∷ ps) = if nat_eq p.kind 1 && nat_eq p.event e then k ∷ named e (k + 1) ps else named e (k + 1) ps

abbrev pub release_of : Image → ℕ → ℕ → Option Process → State → Started
release_of image t k None s = unchanged s
release_of image t k (Some p) s = release image t k p s

-- the releases of the processes with these numbers, in this order
abbrev pub releases : Image → ℕ → List ℕ → State → Started
releases image t [] s = unchanged s
releases image t (k ∷ ks) s = followed (release_of image t k (slice_get image.processes k) s) (releases image t ks)
