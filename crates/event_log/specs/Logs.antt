-- Logs: the events that names can tell, the text of a log, and the first line that tells no event.
use Rattle.std.specs.Prelude.{◌≡◌, ◌≢◌, ◌≤◌, ◌<◌, ◌+◌, ◌^◌, ◌++◌, ℕ, List, length, All, codes}
use Rattle.base.specs.declared.event.Event.{Event}
use Rattle.base.specs.declared.event.Act.{Act}
use Rattle.base.specs.declared.event.Act.TheVariants as act
use Rattle.text_fields.specs.Fields.{IsWord, Is32}
use Rattle.image.specs.declared.names.ImageNames.{ImageNames}
use Rattle.event_log.specs.InRange.{ActIsIn}
use Rattle.event_log.specs.Line.{line_of, log_of}
use Rattle.event_log.specs.declared.fault.LogFault.{LogFault}
use Rattle.event_log.specs.declared.fault.LogFault.TheVariants.{Line, Long, Memory}

-- each name is a word, and each condition stands in a monitor
pub record AreWordNames (names : ImageNames) : Type 0 where
  pub processes : All IsWord names.processes
  pub monitors : All IsWord names.monitors
  pub conditions : All (λ condition. IsWord condition.name) names.conditions
  pub placed : All (λ condition. condition.mon < length names.monitors) names.conditions
  pub devices : All (λ device. IsWord device.name) names.devices

-- a number of 16 bits can name each
pub record AreFew (names : ImageNames) : Type 0 where
  pub processes : length names.processes ≤ 2 ^ 16
  pub monitors : length names.monitors ≤ 2 ^ 16
  pub conditions : length names.conditions ≤ 2 ^ 16
  pub devices : length names.devices ≤ 2 ^ 16

-- the numbers of an exception and of processes have 16 bits, and a value has 32
abbrev pub ActFits : Act → Type 0
ActFits (act.TimeOut cond number) = number < 2 ^ 16
ActFits (act.Get dev value) = Is32 value
ActFits (act.Put dev value) = Is32 value
ActFits (act.Broadcast cond count) = count < 2 ^ 16
ActFits (act.Raise number) = number < 2 ^ 16
ActFits other = Unit {0}

-- an event below tick 1,000,000,000 whose numbers are in range of names that are words
pub record IsTold (names : ImageNames) (event : Event) : Type 0 where
  pub words : AreWordNames names
  pub tick : event.tick < 1000000000
  pub process : event.proc < length names.processes
  pub act : ActIsIn names event.act
  pub fits : ActFits event.act

abbrev pub longest_text : ℕ
longest_text = 67108864

-- the text is the log of these events, which the names can tell
pub record IsLog (names : ImageNames) (text : List ℕ) (events : List Event) : Type 0 where
  pub short : length text ≤ longest_text
  pub told : All (IsTold names) events
  pub whole : text ≡ log_of names events

-- a line without its LF tells this event
pub record Tells (names : ImageNames) (line : List ℕ) (event : Event) : Type 0 where
  pub told : IsTold names event
  pub text : line ++ codes "\n" ≡ line_of names event

-- the lines before this one tell events, and what begins with it begins with the line of none
pub record IsFaultyLine (names : ImageNames) (text : List ℕ) (line : ℕ) : Type 0 where
  pub short : length text ≤ longest_text
  pub events : List Event
  pub rest : List ℕ
  pub told : All (IsTold names) events
  pub whole : text ≡ log_of names events ++ rest
  pub is : line ≡ length events + 1
  pub some : 0 < length rest
  pub none : (event : Event) (after : List ℕ) → IsTold names event → rest ≢ line_of names event ++ after

-- why a text is no log of these names: it is too long, or a line tells no event
abbrev pub IsFault : ImageNames → List ℕ → LogFault → Type 0
IsFault names text Long = longest_text < length text
IsFault names text (Line line) = IsFaultyLine names text line
IsFault names text (Memory _) = ⊥
