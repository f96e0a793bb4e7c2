-- The lines of a process and of a monitor, by what is seen of them.
use Rattle.std.specs.Prelude.{◌++◌, ℕ, ℤ, List, Option, codes}
use Rattle.image.specs.declared.names.ImageNames.{ImageNames}
use Rattle.event_log.specs.Line.{process_name, monitor_name}
use Rattle.command_due.specs.Text.{occupant_text, view_text, words_text}
use Rattle.vm_stretch.specs.declared.view.View.{View}

-- a process that stands so and has these words
abbrev pub told_process : ImageNames → (k : ℕ) → View → List ℤ → List ℕ
told_process names k view words = codes "process " ++ (process_name names k ++ (view_text names view ++ (codes " data" ++ words_text words)))

-- a monitor with this occupant, if any, and these words
abbrev pub told_monitor : ImageNames → (m : ℕ) → Option ℕ → List ℤ → List ℕ
told_monitor names m occupant words = codes "monitor " ++ (monitor_name names m ++ (occupant_text names occupant ++ (codes " data" ++ words_text words)))
