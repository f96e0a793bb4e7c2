-- What a buffer comes to at the end of a call.
use Rattle.std.specs.Prelude.{◌≡◌, ◌≢◌, ◌⊎◌, ℕ, List, [], Option, Some, None}
use Rattle.outside.specs.Outside.{SinkState, Rose, Appends, HasTakenSome}
use Rattle.command_answers.specs.declared.status.Status.{Status}
use Rattle.command_answers.specs.declared.status.Status.TheVariants as status_is

-- nothing was taken yet, where it is told
abbrev pub HasTakenNothing : Option (List ℕ) → Type 0
HasTakenNothing (Some taken) = taken ≡ []
HasTakenNothing None = Unit {0}

-- What the sink below has, once the call had this status over the buffer, and the status now.
pub data IsSettled (buffer below : SinkState) (status now : ℕ) : Type 0 where
  -- it has taken all
  whole : now ≡ status → below.taken ≡ buffer.taken → below.faults ≡ buffer.faults → IsSettled buffer below status now
  -- the status says that nothing was put, and nothing was written
  idle : now ≡ status → (status ≡ 6) ⊎ (status ≡ 8) → (rest : List ℕ) → Appends below.taken buffer.taken rest
      → below.faults ≡ buffer.faults → IsSettled buffer below status now
  -- what waited, which was something, was not taken whole
  lost : now ≡ 7 → status ≢ 6 → status ≢ 8 → (rest : List ℕ) → Appends below.taken buffer.taken rest
      → Rose buffer.faults below.faults → HasTakenSome buffer.taken → IsSettled buffer below status now

-- what the status names, once the call had this status over the buffer, and the status now: the
-- same, with the same count of faults, or that a put failed
abbrev pub CauseStands : (buffer below : SinkState) (status now : Status) → Type 0
CauseStands buffer below status now = ((now ≡ status) × (below.faults ≡ buffer.faults)) ⊎ ((now ≡ status_is.Unput) × Rose buffer.faults below.faults)
