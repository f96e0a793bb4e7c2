-- The tick before which a run stops to be watched.
use Rattle.std.specs.Prelude.{◌≡◌, ◌<◌, ◌⊎◌, ◌+◌, ℕ, Option, Some, None, IsSomeAnd, min}
use Rattle.machine_semantics.specs.Image.{Image, Script}
use Rattle.vm_stretch.specs.Completed.{completed_at}
use Rattle.command_words.specs.declared.stop.Breakpoint.{Breakpoint}
use Rattle.command_words.specs.declared.stop.Breakpoint.TheVariants.{Tick, Effect}

-- the instruction at the address has its effect in tick t
abbrev pub HasEffect : Image → Script → (address t : ℕ) → Type 0
HasEffect image script address t = IsSomeAnd (completed_at image script t) (λ c. c.at ≡ address)

-- and tick t is the first such tick before the script's end
pub record IsFirstEffect (image : Image) (script : Script) (address t : ℕ) : Type 0 where
  pub is : HasEffect image script address t
  pub before : t < script.end_tick
  pub first : (earlier : ℕ) → earlier < t → ¬ HasEffect image script address earlier

-- the instruction at the address has no effect before the script's end
abbrev pub HasNoEffect : Image → Script → (address : ℕ) → Type 0
HasNoEffect image script address = (t : ℕ) → t < script.end_tick → ¬ HasEffect image script address t

-- the run stops before tick t: at a tick, or at its end if this comes before; right after the first
-- effect at an address, or at its end where there is none
abbrev pub IsStop : Image → Script → Breakpoint → (t : ℕ) → Type 0
IsStop image script (Tick tick) t = t ≡ min tick script.end_tick
IsStop image script (Effect address) t =
    ((effect : ℕ) × IsFirstEffect image script address effect × (t ≡ effect + 1))
    ⊎ (HasNoEffect image script address × (t ≡ script.end_tick))
