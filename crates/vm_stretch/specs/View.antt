-- What is seen of the machine between two ticks.
use Rattle.std.specs.Prelude.{ℕ, ℤ, List, [], Option, Some, None, slice_get, take, drop}
use Rattle.std.specs.List.{position}
use Rattle.machine_semantics.specs.Image.{Image, Monitor}
use Rattle.machine_semantics.specs.State.{Thread, Idle, Ready, Waiting, State, thread_inside}
use Rattle.machine_semantics.specs.Tick.{owned_of}
use Rattle.vm_stretch.specs.Stretch.{left}
use Rattle.vm_stretch.specs.declared.view.View.{View}
use Rattle.vm_stretch.specs.declared.view.View.TheVariants as view

-- ---- processes

-- how a process that stands so is seen: a ready one by the address of its instruction, the ticks
-- left of what it is at (of its burn, where it has one, else of that instruction) and the monitor
-- that it is inside, a waiting one by the condition and the tick of its time-out; no process is
-- seen as an idle one
abbrev pub view_by : Image → Option Thread → View
view_by image (Some (Ready job)) = view.Ready job.place (left image job) job.inside
view_by image (Some (Waiting condition due number job)) = view.Waiting condition due
view_by image (Some Idle) = view.Idle
view_by image None = view.Idle

-- how process k stands
abbrev pub view_of : Image → State → ℕ → View
view_of image s k = view_by image (slice_get s.threads k)

-- the words that process k keeps
abbrev pub process_words : State → ℕ → List ℤ
process_words s k = owned_of (slice_get s.owned k)

-- ---- monitors

-- the words of a monitor, which stand together in the area of all monitors
abbrev pub words_in : List ℤ → Option Monitor → List ℤ
words_in area (Some monitor) = take monitor.words (drop monitor.base area)
words_in area None = []

-- the words of monitor m
abbrev pub monitor_words : Image → State → ℕ → List ℤ
monitor_words image s m = words_in s.shared (slice_get image.monitors m)

-- the process that is inside monitor m, the first of them if there are more; none where nobody is
abbrev pub occupant : State → ℕ → Option ℕ
occupant s m = position (thread_inside m) s.threads
