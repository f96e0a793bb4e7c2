-- How many words are shown of the states of an image.
use Rattle.std.specs.Prelude.{◌≡◌, ℕ, length, min}
use Rattle.vm_watch.specs.Inspect.{HasItsWords}
use Rattle.machine_semantics.specs.Image.{Image}
use Rattle.machine_semantics.specs.State.{State}
use Rattle.command_due.specs.Text.{shown_words}
use Rattle.vm_stretch.specs.View.{monitor_words, process_words}

-- so many are shown of process k
abbrev pub IsShownOfProcess : Image → (k count : ℕ) → Type 0
IsShownOfProcess whole k count = (image : Image) (s : State) → image ≡ whole → HasItsWords image s → count ≡ min (length (process_words s k)) shown_words

-- so many are shown of monitor m
abbrev pub IsShownOfMonitor : Image → (m count : ℕ) → Type 0
IsShownOfMonitor whole m count = (image : Image) (s : State) → image ≡ whole → HasItsWords image s → count ≡ min (length (monitor_words image s m)) shown_words
