-- Events that have a line: their numbers name something, and the names are short.
use Rattle.std.specs.Prelude.{◌<◌, ◌≤◌, ℕ, List, length, Option, Some, None, All, ⊤}
use Rattle.base.specs.declared.event.Event.{Event}
use Rattle.base.specs.declared.event.Act.{Act}
use Rattle.base.specs.declared.event.Act.TheVariants as act
use Rattle.image.specs.declared.names.ImageNames.{ImageNames}

-- a name has at most 63 bytes
abbrev pub IsShort : List ℕ → Type 0
IsShort name = length name ≤ 63

-- the names that a line can have are short, and each condition stands in a monitor
pub record AreSound (names : ImageNames) : Type 0 where
  pub processes : All IsShort names.processes
  pub monitors : All IsShort names.monitors
  pub conditions : All (λ condition. IsShort condition.name) names.conditions
  pub placed : All (λ condition. condition.mon < length names.monitors) names.conditions
  pub devices : All (λ device. IsShort device.name) names.devices

-- the process that a signal takes out, if any, is there
abbrev pub WokenIsIn : ImageNames → Option ℕ → Type 0
WokenIsIn names None = ⊤
WokenIsIn names (Some number) = number < length names.processes

-- the numbers of an act are in range of the names
abbrev pub ActIsIn : ImageNames → Act → Type 0
ActIsIn names act.Release = ⊤
ActIsIn names (act.TimeOut cond number) = cond < length names.conditions
ActIsIn names (act.Get dev value) = dev < length names.devices
ActIsIn names (act.Put dev value) = dev < length names.devices
ActIsIn names (act.Enter mon) = mon < length names.monitors
ActIsIn names (act.Leave mon) = mon < length names.monitors
ActIsIn names (act.Wait cond) = cond < length names.conditions
ActIsIn names (act.Signal cond woken) = (cond < length names.conditions) × WokenIsIn names woken
ActIsIn names (act.Broadcast cond count) = cond < length names.conditions
ActIsIn names (act.Empty cond answer) = cond < length names.conditions
ActIsIn names (act.Raise number) = ⊤
ActIsIn names act.End = ⊤

-- an event below tick 1,000,000,000 whose numbers are in range of sound names
pub record AreIn (names : ImageNames) (event : Event) : Type 0 where
  pub sound : AreSound names
  pub tick : event.tick < 1000000000
  pub process : event.proc < length names.processes
  pub act : ActIsIn names event.act
