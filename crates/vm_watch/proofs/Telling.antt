-- What is told, from what was looked at.
use Rattle.std.proofs.Common.{◌≡◌, ◌++◌, ℕ, List, Option, Some, Result, Ok, Err, length, take, ap, ◌∙◌}
use Rattle.std.specs.Prelude.{ℤ, IfOk, codes, decimal, slice_get}
use Rattle.base.specs.declared.event.Event.{Event}
use Rattle.image.specs.declared.names.ImageNames.{ImageNames}
use Rattle.image.specs.Named.{NamedImage}
use Rattle.vm_watch.specs.Inspect.{HasItsWords}
use Rattle.machine_semantics.specs.Image.{Image, Monitor, Process, Script}
use Rattle.machine_semantics.specs.Run.{state_at}
use Rattle.machine_semantics.specs.State.{State}
use Rattle.command_due.specs.Text.{events_before, monitor_line, process_line, recent, recent_text, state_text, stop_text}
use Rattle.vm_watch.specs.Told.{told_monitor, told_process}
use Rattle.vm_stretch.specs.declared.view.View.{View}
use Rattle.vm_stretch.specs.View.{monitor_words, occupant, process_words, view_of}

-- a process has as many words as stand in the file
pub process_declared : (whole image : Image) (s : State) (k : ℕ) (p : Process) → image ≡ whole → HasItsWords image s → slice_get whole.processes k ≡ Some p → length (process_words s k) ≡ p.words
process_declared whole image s k p same has at = has.processes k p (ap (λ (x : Image). slice_get x.processes k) same ∙ at)

-- and so has a monitor
pub monitor_declared : (whole image : Image) (s : State) (m : ℕ) (x : Monitor) → image ≡ whole → HasItsWords image s → slice_get whole.monitors m ≡ Some x → length (monitor_words image s m) ≡ x.words
monitor_declared whole image s m x same has at = has.monitors m x (ap (λ (y : Image). slice_get y.monitors m) same ∙ at)

pub process_told : (names : ImageNames) (image : Image) (s : State) (k : ℕ) (view : View) (words : List ℤ) → view ≡ view_of image s k → words ≡ take 16 (process_words s k) → told_process names k view words ≡ process_line names image s k
process_told names image s k view words seen first =
    ap (λ (v : View). told_process names k v words) seen ∙ ap (λ (ws : List ℤ). told_process names k (view_of image s k) ws) first

pub monitor_told : (names : ImageNames) (image : Image) (s : State) (m : ℕ) (inside : Option ℕ) (words : List ℤ) → inside ≡ occupant s m → words ≡ take 16 (monitor_words image s m) → told_monitor names m inside words ≡ monitor_line names image s m
monitor_told names image s m inside words seen first =
    ap (λ (o : Option ℕ). told_monitor names m o words) seen ∙ ap (λ (ws : List ℤ). told_monitor names m (occupant s m) ws) first

-- the whole text
pub stop_told : (n : NamedImage) (image : Image) (script : Script) (t : ℕ) (last : List Event) (text : List ℕ) → image ≡ n.image → last ≡ recent (events_before image script t)
    → text ≡ codes "tick " ++ (decimal t ++ (codes "\n" ++ (state_text n.names image (state_at image script t) ++ recent_text n.names last))) → text ≡ stop_text n script t
unfolding stop_text
stop_told n image script t last text same are is =
    is
    ∙ (ap (λ (es : List Event). codes "tick " ++ (decimal t ++ (codes "\n" ++ (state_text n.names image (state_at image script t) ++ recent_text n.names es)))) are
    ∙ ap (λ (x : Image). codes "tick " ++ (decimal t ++ (codes "\n" ++ (state_text n.names x (state_at x script t) ++ recent_text n.names (recent (events_before x script t)))))) same)

-- what holds of a result that is there
pub if_ok : {A E : Type 0} (r : Result A E) (P Q : A → Type 0) → ((x : A) → P x → Q x) → IfOk r P → IfOk r Q
if_ok (Ok x) P Q to is = to x is
if_ok (Err e) P Q to is = is
