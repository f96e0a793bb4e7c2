-- How processes stand in the choice.
use Rattle.std.specs.Prelude.{◌≡◌, ℕ, Bool, true, false, List, [], ◌∷◌, Option, Some, None}
use Rattle.machine_semantics.specs.Image.{Image, Process}
use Rattle.machine_semantics.specs.State.{Job, Thread, Idle, Ready, Waiting}
use Rattle.machine_semantics.specs.Tick.{active_rank, pick}
use Rattle.vm_stretch.specs.Stretch.{place_of}
use Rattle.vm_stretch.specs.declared.choice.Contender.{Contender}
use Rattle.vm_stretch.specs.Pick.{foremost}

-- whether it is inside some monitor
abbrev pub is_inside_one : Option ℕ → Bool
is_inside_one None = false
is_inside_one (Some m) = true

-- the process stands so
abbrev pub Stands : Image → Process → Thread → Contender → Type 0
Stands image p (Ready job) s = (s.ready ≡ true) × (s.active ≡ active_rank image p job.inside) × (s.inside ≡ is_inside_one job.inside)
Stands image p Idle s = s.ready ≡ false
Stands image p (Waiting c due e job) s = s.ready ≡ false

-- each does
abbrev pub AreStanding : Image → List Process → List Thread → List Contender → Type 0
AreStanding image [] [] [] = Unit {0}
AreStanding image (p ∷ ps) (t ∷ ts) (s ∷ ss) = Stands image p t s × AreStanding image ps ts ss
AreStanding image ps ts ss = ⊥

-- The law: the foremost of them is the one that is picked.
abbrev pub PickIsForemost : Type 0
PickIsForemost = (image : Image) (ts : List Thread) (all : List Contender) → AreStanding image image.processes ts all → place_of (pick image ts) ≡ foremost all
