-- Start events that come one by one.
use Rattle.std.specs.Prelude.{◌≡◌, ◌++◌, ℕ, suc, Bool, true, false, List}
use Rattle.base.specs.declared.event.Event.{Event}
use Rattle.syntax_tree.specs.Plain.{Program}
use Rattle.source_semantics.specs.Config.{Config}
use Rattle.source_semantics.specs.Starts.{Script}
use Rattle.replay_due_events.specs.Timings.{event_of}
use Rattle.replay_reason_spec.specs.Missing.{AreMissing}
use Rattle.replay_reason.specs.declared.next_start.DueStart.{DueStart}

abbrev pub start_event : DueStart → Event
start_event d = event_of d.tick d.start

-- these events are the first of those that are missing; where it goes on, others may follow, from
-- the configuration after them
abbrev pub Leads : Program → Script → (until : ℕ) → (old : Config) → Bool → (new : Config) → (added : List Event) → Type 0
Leads g s until old true new added = (n : ℕ) (es : List Event) → AreMissing g s until n new es → AreMissing g s until (suc n) old (added ++ es)
Leads g s until old false new added = (n : ℕ) → AreMissing g s until (suc n) old added

-- these were added to a list
pub record Takes (g : Program) (s : Script) (until : ℕ) (old : Config) (goes : Bool) (new : Config) (before after : List Event) : Type 0 where
  pub added : List Event
  pub list : after ≡ before ++ added
  pub leads : Leads g s until old goes new added

-- these are listed, of the first n from a configuration on; so many may follow, from the one at hand
abbrev pub IsListed : Program → Script → (until n : ℕ) → (first : Config) → (now : Config) → (left : ℕ) → (found : List Event) → Type 0
IsListed g s until n first now left found = (es : List Event) → AreMissing g s until left now es → AreMissing g s until n first (found ++ es)
