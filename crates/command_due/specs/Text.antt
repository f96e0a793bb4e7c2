-- The lines that tell the state of the machine before a tick of a run.
use Rattle.std.specs.Prelude.{◌-◌, ◌++◌, ℕ, ℤ, List, [], ◌∷◌, Option, Some, None, length, take, drop, codes, decimal}
use Rattle.std.specs.Fmt.{signed_decimal}
use Rattle.std.specs.List.{flat_map, range_with_len}
use Rattle.base.specs.declared.event.Event.{Event}
use Rattle.image.specs.declared.names.ImageNames.{ImageNames}
use Rattle.image.specs.Named.{NamedImage}
use Rattle.event_log.specs.Line.{process_name, monitor_name, condition_name, log_of}
use Rattle.machine_semantics.specs.Image.{Image, Script}
use Rattle.machine_semantics.specs.State.{State}
use Rattle.machine_semantics.specs.Run.{state_at, at_start, events_from}
use Rattle.vm_stretch.specs.View.{view_of, process_words, monitor_words, occupant}
use Rattle.vm_stretch.specs.declared.view.View.{View}
use Rattle.vm_stretch.specs.declared.view.View.TheVariants.{Idle, Ready, Waiting}

-- ---- words

-- words, each after a space, to the end of the line
abbrev pub words_text : List ℤ → List ℕ
words_text [] = codes "\n"
words_text (z ∷ zs) = codes " " ++ (signed_decimal z ++ words_text zs)

-- how many words are shown at most
abbrev pub shown_words : ℕ
shown_words = 16

-- the first words of a process or a monitor
abbrev pub data_text : List ℤ → List ℕ
data_text words = codes " data" ++ words_text (take shown_words words)

-- ---- processes

-- the monitor that a process is inside, or a dash
abbrev pub inside_text : ImageNames → Option ℕ → List ℕ
inside_text names None = codes "-"
inside_text names (Some m) = monitor_name names m

-- how a process stands
abbrev pub view_text : ImageNames → View → List ℕ
view_text names Idle = codes " idle"
view_text names (Ready at left inside) = codes " ready " ++ (decimal at ++ (codes " " ++ (decimal left ++ (codes " " ++ inside_text names inside))))
view_text names (Waiting condition due) = codes " waiting " ++ (condition_name names condition ++ (codes " " ++ decimal due))

abbrev pub process_line : ImageNames → Image → State → (k : ℕ) → List ℕ
process_line names image s k = codes "process " ++ (process_name names k ++ (view_text names (view_of image s k) ++ data_text (process_words s k)))

-- ---- monitors

-- the process that is inside a monitor, if any is
abbrev pub occupant_text : ImageNames → Option ℕ → List ℕ
occupant_text names None = codes " free"
occupant_text names (Some k) = codes " " ++ process_name names k

abbrev pub monitor_line : ImageNames → Image → State → (m : ℕ) → List ℕ
monitor_line names image s m = codes "monitor " ++ (monitor_name names m ++ (occupant_text names (occupant s m) ++ data_text (monitor_words image s m)))

-- ---- events

-- how many events are shown at most
abbrev pub shown_events : ℕ
shown_events = 16

-- the last events, at most so many
abbrev pub recent : List Event → List Event
recent events = drop (length events - shown_events) events

-- how many are shown, and their lines in the log
abbrev pub recent_text : ImageNames → List Event → List ℕ
recent_text names events = codes "last " ++ (decimal (length events) ++ (codes "\n" ++ log_of names events))

-- ---- the whole text

-- the lines of the processes and of the monitors
abbrev pub state_text : ImageNames → Image → State → List ℕ
state_text names image s =
    flat_map (process_line names image s) (range_with_len 0 (length image.processes))
    ++ flat_map (monitor_line names image s) (range_with_len 0 (length image.monitors))

-- the events of the ticks before tick t
abbrev pub events_before : Image → Script → (t : ℕ) → List Event
events_before image script t = events_from image script t 0 (at_start image)

-- the tick, the state before its start events, and the last events before it
unfoldable pub stop_text : NamedImage → Script → (t : ℕ) → List ℕ
stop_text n script t =
    codes "tick " ++ (decimal t ++ (codes "\n" ++ (state_text n.names n.image (state_at n.image script t)
    ++ recent_text n.names (recent (events_before n.image script t)))))
