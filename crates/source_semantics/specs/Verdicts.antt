-- Whether a list of events is a run, and where it is not.
use Rattle.std.specs.Prelude.{◌≡◌, ℕ, suc, ◌++◌, List, [], ◌∷◌, length}
use Rattle.base.specs.declared.event.Event.{Event}
use Rattle.syntax_tree.specs.Plain.{Program}
use Rattle.source_semantics.specs.Config.{Config}
use Rattle.source_semantics.specs.Starts.{NoneMissing, Script}
use Rattle.source_semantics.specs.Source.{RunFrom, Step}
use Rattle.source_semantics.specs.declared.verdict.Verdict.{Verdict}
use Rattle.source_semantics.specs.declared.verdict.Verdict.TheVariants as verdict_is

-- the events are allowed in turn, and lead from one configuration to the other
abbrev pub Allowed : Program → Script → Config → List Event → Config → Type 0
Allowed g s c [] d = d ≡ c
Allowed g s c (e ∷ es) d = (new : Config) × Step g s c e new × Allowed g s new es d

-- the next event is not allowed, or there is none and a start event due before the end is missing
abbrev pub Stops : Program → Script → Config → List Event → Type 0
Stops g s c [] = NoneMissing g s c s.end_tick → ⊥
Stops g s c (e ∷ es) = (new : Config) → Step g s c e new → ⊥

-- The events before line n are allowed in turn, and the one on line n is not; or all are allowed, a
-- start event due before the end is missing, and n is the line after the last. The first line is 1.
pub record IsRefusedAt (g : Program) (s : Script) (c : Config) (es : List Event) (n : ℕ) : Type 0 where
  pub earlier : List Event
  pub later : List Event
  pub parts : es ≡ earlier ++ later
  pub line : n ≡ suc (length earlier)
  pub reached : Config
  pub allowed : Allowed g s c earlier reached
  pub stops : Stops g s reached later

-- what is told of the events from a configuration on
abbrev pub Judges : Program → Script → Config → List Event → Verdict → Type 0
Judges g s c es verdict_is.Run = RunFrom g s c es
Judges g s c es (verdict_is.Refused n) = IsRefusedAt g s c es n
