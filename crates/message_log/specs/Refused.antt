-- The message for a log that is of no run: the first line that is refused, and why.
use Rattle.std.specs.Prelude.{ℕ, ◌++◌, List, [], ◌∷◌, Option, Some, None, length, take, map, codes, decimal, nat_lt, if◌then◌else◌}
use Rattle.std.specs.List.{concat}
use Rattle.base.specs.declared.event.Event.{Event}
use Rattle.image.specs.declared.names.ImageNames.{ImageNames}
use Rattle.event_log.specs.Line.{process_name}
use Rattle.event_log.specs.Parts.{spelled}
use Rattle.message_text.specs.Words.{note}
use Rattle.message_log.specs.Log.{told_line}
use Rattle.replay_reason_spec.specs.Events.{event_of, events_of}
use Rattle.replay_reason_spec.specs.declared.event.SourceEvent.{SourceEvent}
use Rattle.replay_reason_spec.specs.declared.reason.Reason.{Reason}
use Rattle.replay_reason_spec.specs.declared.reason.Reason.TheVariants as reason

-- what is wrong
abbrev pub sentence : ImageNames → Reason → List ℕ
sentence names (reason.Ended missing) = codes "the log ends, and start events below the end of the script are missing"
sentence names (reason.BeyondEnd tick end) = codes "tick " ++ (decimal tick ++ (codes " is not below the script's end, " ++ decimal end))
sentence names (reason.Past tick reached) = codes "tick " ++ (decimal tick ++ (codes " is below tick " ++ (decimal reached ++ codes ", which the log has reached")))
sentence names (reason.Unfinished process) = codes "this release finds the process `" ++ (process_name names process ++ codes "` unfinished")
sentence names (reason.Missing missing) = codes "start events that are due before this one are missing"
sentence names (reason.NoneDue tick next) = codes "no start event is due up to tick " ++ decimal tick
sentence names (reason.Acted tick) = codes "somebody has acted in tick " ++ (decimal tick ++ codes " already")
sentence names (reason.Other allowed) = codes "this event is not what the program does next"

-- what stands behind a word, after a blank
abbrev pub behind : Option (List ℕ) → List ℕ
behind None = []
behind (Some rest) = 32 ∷ rest

-- a line of a list
abbrev pub listed : (line : List ℕ) → List ℕ
listed line = codes "          " ++ (line ++ codes "\n")

-- each event in a line of its own
abbrev pub list_lines : ImageNames → List Event → List ℕ
list_lines names es = concat (map (λ e. listed (spelled names e)) es)

-- of so many events not all are shown
abbrev pub more : (count : ℕ) → List ℕ
more count = if nat_lt 8 count then listed (codes "and more") else []

-- the start events that are missing: the first eight, and whether there are more
abbrev pub list : ImageNames → List Event → List ℕ
list names es = note (codes "due, and not come:") ++ (list_lines names (take 8 es) ++ more (length es))

-- a note with the line of an event, between backquotes
abbrev pub quoting : ImageNames → (words : List ℕ) → Event → List ℕ
quoting names words e = note (words ++ (codes "`" ++ (spelled names e ++ codes "`")))

abbrev pub next_note : ImageNames → (words none : List ℕ) → Option SourceEvent → List ℕ
next_note names words none None = note none
next_note names words none (Some e) = quoting names words (event_of e)

-- what is noted
abbrev pub notes : ImageNames → Reason → List ℕ
notes names (reason.Ended missing) = list names (events_of missing.items)
notes names (reason.Missing missing) = list names (events_of missing.items)
notes names (reason.NoneDue tick next) = next_note names (codes "the next one due is ") (codes "none is due below the script's end") next
notes names (reason.Other allowed) = next_note names (codes "allowed in this tick is ") (codes "no process is ready in this tick") allowed
notes names other = []

-- the message for a log that is that of no run, from this line on
unfoldable pub refused_message : (file text : List ℕ) (line : ℕ) (names : ImageNames) (why : Reason) → List ℕ
refused_message file text line names why = told_line file text line (codes "L3") (sentence names why) ++ notes names why
