-- A log that is read line by line.
use Rattle.std.specs.Prelude.{◌≡◌, ◌<◌, ◌≤◌, ◌+◌, ◌++◌, ℕ, List, length, All}
use Rattle.base.specs.declared.event.Event.{Event}
use Rattle.image.specs.declared.names.ImageNames.{ImageNames}
use Rattle.event_log.specs.Finding.{AreFound}
use Rattle.event_log.specs.Line.{log_of}
use Rattle.event_log.specs.Logs.{AreWordNames, IsLog, IsTold, longest_text}
use Rattle.event_log.specs.declared.reader.LogReader.{LogReader}

-- the names that its lines can tell
abbrev pub names_of : LogReader → ImageNames
names_of r = r.index.now.names.now

-- it finds the numbers of the names, which are words where a line is left
pub record IsReader (r : LogReader) : Type 0 where
  pub found : AreFound r.index.now
  pub words : 0 < length r.rest.now → AreWordNames (names_of r)
  pub few : r.lines + length r.rest.now ≤ longest_text

-- these are the events of the lines of the text that were read
pub record HasRead (text : List ℕ) (events : List Event) (r : LogReader) : Type 0 where
  pub short : length text ≤ longest_text
  pub told : All (IsTold (names_of r)) events
  pub whole : text ≡ log_of (names_of r) events ++ r.rest.now
  pub lines : r.lines ≡ length events

-- the text is a log, whose first events are these, and all its lines were read
pub record HasReadAll (text : List ℕ) (events : List Event) (r : LogReader) : Type 0 where
  pub later : List Event
  pub read : HasRead text (events ++ later) r
  pub log : IsLog (names_of r) text (events ++ later)
