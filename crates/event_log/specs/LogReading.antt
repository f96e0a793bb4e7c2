-- What holds of all logs.
use Rattle.std.specs.Prelude.{◌≡◌, ◌≢◌, ◌<◌, ℕ, List, length, All, codes}
use Rattle.base.specs.declared.event.Event.{Event}
use Rattle.image.specs.declared.names.ImageNames.{ImageNames}
use Rattle.event_log.specs.Line.{line_of, log_of, process_name, monitor_name, device_name, condition_name}
use Rattle.event_log.specs.Logs.{AreWordNames, IsTold}

-- below a number, no two names are the same
abbrev pub AreDistinct : ℕ → (ℕ → List ℕ) → Type 0
AreDistinct count name = (i j : ℕ) → i < count → j < count → name i ≡ name j → i ≡ j

-- the names are words, none of a process is a dash, and no two of a kind are the same
pub record AreUnambiguous (names : ImageNames) : Type 0 where
  pub words : AreWordNames names
  pub no_dash : All (λ name. name ≢ codes "-") names.processes
  pub processes : AreDistinct (length names.processes) (process_name names)
  pub monitors : AreDistinct (length names.monitors) (monitor_name names)
  pub devices : AreDistinct (length names.devices) (device_name names)
  pub conditions : AreDistinct (length names.conditions) (condition_name names)

-- a line is that of one event
abbrev pub TellsOneEvent : Type 0
TellsOneEvent = (names : ImageNames) (event other : Event) → AreUnambiguous names → IsTold names event → IsTold names other → line_of names event ≡ line_of names other → event ≡ other

-- a text is the log of one list of events
abbrev pub IsOneLog : Type 0
IsOneLog = (names : ImageNames) (events others : List Event) → AreUnambiguous names → All (IsTold names) events → All (IsTold names) others → log_of names events ≡ log_of names others → events ≡ others
