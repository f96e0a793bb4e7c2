-- The run under earliest deadline first.
use Rattle.std.specs.Prelude.{◌≡◌, ◌+◌, ℕ, length}
use Rattle.machine_semantics.specs.Image.{Image, Script}
use Rattle.edf_semantics.specs.Run.{events_from, state_at}
use Rattle.edf_semantics.specs.Turn.{chosen, marked}
use Rattle.vm_runner.specs.Course.{Behaviour, Course, IsStep, course}
use Rattle.vm_runner.specs.Dispatching.{Before, Begun, Between, InRow, Phase, Starting}
use Rattle.edf_machine.specs.Marks.{AreMarks, AreNoted}
use Rattle.edf_machine.specs.Runnable.{IsRunnable}
use Rattle.edf_machine.specs.declared.deadlines.Deadlines.{Deadlines}

abbrev pub deadlines : Image → Script → Behaviour
deadlines image script = record {
  state = λ t. (state_at image script t).state;
  chosen = λ t. chosen image script t;
  events = λ n t. events_from image script n t (state_at image script t);
}

abbrev pub by_deadlines : Image → Script → Course
by_deadlines image script = course deadlines image script

-- the marks are those before tick t, and it is noted of all processes who was idle then
pub record HasNoted (image : Image) (script : Script) (t : ℕ) (d : Deadlines) : Type 0 where
  pub marks : AreMarks image d.marks.items (state_at image script t).marks
  pub noted : AreNoted (state_at image script t).state.threads d.marks.items
  pub all : length (state_at image script t).state.threads ≡ length image.processes

-- the marks are those of the meaning; in a row those after it, however long it is
abbrev pub Knows : Image → Script → Phase → Deadlines → Type 0
Knows image script (Before t) d = AreMarks image d.marks.items (state_at image script t).marks
Knows image script (Starting t) d = HasNoted image script t d
Knows image script (Begun t) d = AreMarks image d.marks.items (marked image script t)
Knows image script (Between t) d = AreMarks image d.marks.items (state_at image script t).marks
Knows image script (InRow t) d = IsRunnable image script → (n : ℕ) → IsStep (by_deadlines image script) t n → AreMarks image d.marks.items (state_at image script (t + n)).marks
