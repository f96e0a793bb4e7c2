-- What accepting an event and asking whether a run is complete have to answer.
use Rattle.std.specs.Prelude.{◌≡◌, ◌↔◌, Bool, true, false}
use Rattle.base.specs.declared.event.Event.{Event}
use Rattle.syntax_tree.specs.Plain.{Program}
use Rattle.source_semantics.specs.Config.{Config}
use Rattle.source_semantics.specs.Starts.{Script, NoneMissing}
use Rattle.source_semantics.specs.Source.{Step}

-- true: the event is allowed, and the configuration is the one after it; false: it is allowed in no
-- way, and nothing changes
abbrev pub Accepts : Program → Script → Config → Event → Bool → Config → Type 0
Accepts g s old e true new = Step g s old e new
Accepts g s old e false new = ((c : Config) → Step g s old e c → ⊥) × (new ≡ old)

abbrev pub IsComplete : Program → Script → Config → Bool → Type 0
IsComplete g s c answer = NoneMissing g s c s.end_tick ↔ (answer ≡ true)
