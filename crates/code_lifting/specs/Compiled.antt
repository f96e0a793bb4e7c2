-- An image that is compiled from a program, a script for both, and the law of its runs.
use Rattle.std.specs.Prelude.{◌≡◌, ◌≤◌, ◌<◌, ℕ, true, false, ℤ, pos, List, [], ◌∷◌, Option, Some, None, length, map, slice_get, unwrap_or}
use Rattle.syntax_tree.specs.Plain.{Program, Trigger, periodic, at_event}
use Rattle.syntax_tree.specs.Plain as tree
use Rattle.source_semantics.specs.Names.{processes, monitors, condition_count, count_value, event_number}
use Rattle.source_semantics.specs.Store.{Vars}
use Rattle.source_semantics.specs.Config.{free_hold}
use Rattle.source_semantics.specs.Ranks.{rank, ceiling}
use Rattle.source_semantics.specs.Starts.{first_of}
use Rattle.source_semantics.specs.Starts as source
use Rattle.machine_semantics.specs.Image.{Process, Monitor, Script, Line, Sets, Occurs}
use Rattle.machine_semantics.specs.State.{zeros}
use Rattle.machine_semantics.specs.Effect.{is_reached}
use Rattle.machine_semantics.specs.Starts.{starts}
use Rattle.machine_semantics.specs.Tick.{tick}
use Rattle.machine_semantics.specs.Run.{words_of, state_at}
use Rattle.machine_semantics.specs.Image as target
use Rattle.machine_semantics.specs.Walk.{Where}
use Rattle.machine_semantics.specs.Safe.{Parts, ImageFits}
use Rattle.machine_semantics.specs.Queues.{AreQueued}
use Rattle.machine_semantics.specs.Whole.{HasNoOverrun}
use Rattle.code_spec.specs.Boundary.{SameInside, IsFaithful}
use Rattle.code_lifting.specs.Related.{Whole, Relations}

-- the process is released when its text says
abbrev pub IsTimed : Program → Process → Trigger → Type 0
IsTimed g p (periodic frame deadline first) = (p.kind ≡ 0) × (p.frame ≡ count_value g frame) × (p.first ≡ first_of g first)
IsTimed g p (at_event e frame deadline) = (p.kind ≡ 1) × (p.event ≡ event_number g e)

-- process k of the image is that of the text
pub record IsProcess (w : Whole) (r : Relations) (k : ℕ) (p : Process) (text : tree.Process) : Type 0 where
  pub rank_is : p.rank ≡ rank w.program k
  pub timed : IsTimed w.program p text.activation
  pub faithful : IsFaithful (record { image = w.image; program = w.program; number = k; process = p; text = text }) (r.stands k) r.free (r.rests k)

abbrev pub IsProcessOf : Whole → Relations → ℕ → Option Process → Option tree.Process → Type 0
IsProcessOf w r k None None = Unit {0}
IsProcessOf w r k (Some p) (Some text) = IsProcess w r k p text
IsProcessOf w r k None (Some text) = ⊥
IsProcessOf w r k (Some p) None = ⊥

-- the image is compiled from the program: processes, monitors and conditions agree, and the code of
-- each process is right
pub record IsCompiled (w : Whole) (r : Relations) : Type 0 where
  pub processes_agree : (k : ℕ) → IsProcessOf w r k (slice_get w.image.processes k) (slice_get (processes w.program) k)
  pub monitors_agree : length w.image.monitors ≡ length (monitors w.program)
  pub ceilings : (m : ℕ) (monitor : Monitor) → slice_get w.image.monitors m ≡ Some monitor → monitor.ceiling ≡ unwrap_or (ceiling w.program m) 65535
  pub conditions : length w.image.conditions ≡ condition_count (monitors w.program)
  -- no word is of two monitors
  pub apart : (m n v : ℕ) → is_reached w.image (Some m) (pos v) ≡ true → is_reached w.image (Some n) (pos v) ≡ true → m ≡ n
  -- the words of a monitor hold its variables at the start, and no other words matter
  pub free_first : (m : ℕ) (monitor : tree.Monitor) → slice_get (monitors w.program) m ≡ Some monitor
      → r.free m (zeros (words_of w.image.monitors)) (free_hold w.program monitor).vars
  pub free_stable : (m : ℕ) (before after : List ℤ) (vars : Vars) → SameInside w.image (Some m) before after → r.free m before vars → r.free m after vars

-- ---- scripts

abbrev pub line_of : source.Line → Line
line_of (source.sets t d v) = Sets t d v
line_of (source.occurs t e) = Occurs t e

abbrev pub script_of : source.Script → Script
script_of s = record { lines = map line_of s.lines; end_tick = s.end_tick }

abbrev pub tick_of : source.Line → ℕ
tick_of (source.sets t d v) = t
tick_of (source.occurs t e) = t

-- each line's tick is this or a later one, and not below the tick of the line before
abbrev pub IsFrom : ℕ → List source.Line → Type 0
IsFrom t [] = Unit {0}
IsFrom t (l ∷ ls) = (t ≤ tick_of l) × IsFrom (tick_of l) ls

-- ---- what other laws say of a run

pub record IsKept (image : target.Image) (script : Script) : Type 0 where
  pub never_stuck : (t : ℕ) → t < script.end_tick → (tick image script t (state_at image script t)).stuck ≡ false
  pub no_overrun : (t : ℕ) → t < script.end_tick → (tick image script t (state_at image script t)).overrun ≡ false
  pub queued : (t : ℕ) → t < script.end_tick → AreQueued (state_at image script t)
  pub queued_started : (t : ℕ) → t < script.end_tick → AreQueued (starts image script t (state_at image script t)).state

-- The law: so is each run of a valid image without overrun.
abbrev pub ValidRunsAreKept : Type 0
ValidRunsAreKept = (e : Where) (ps : ℕ → Parts) (script : Script) → ImageFits e ps → HasNoOverrun e.image script → IsKept e.image script
