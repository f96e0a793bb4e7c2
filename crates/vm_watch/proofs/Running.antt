-- What a run that can be made promises to the machine and to the lines.
use Rattle.std.proofs.Common.{◌≡◌, ◌≤◌, ◌-◌, ℕ, List, [], ◌∷◌, map, length, refl, arith, ap, subst, ◌∙◌}
use Rattle.std.specs.Prelude.{All}
use Rattle.std.proofs.lemmas.List.Elements.{All-drop}
use Rattle.command_answers.specs.Acts.{CanRunByRanks}
use Rattle.script.specs.Meaning.{line_said}
use Rattle.command_due.specs.Script.{run_of}
use Rattle.base.specs.declared.event.Event.{Event}
use Rattle.image.specs.Named.{NamedImage}
use Rattle.code_lifting.specs.Compiled as lifted
use Rattle.event_log.specs.InRange.{AreIn}
use Rattle.vm_law.proofs.Ticking.{valid_runs_have_lines}
use Rattle.machine_semantics.specs.Image.{Image, Line, Script}
use Rattle.machine_semantics.specs.Run.{events, events_from, state_at}
use Rattle.vm_run.specs.Coming.{coming}
use Rattle.vm_run.proofs.Rest.{lines_now}
use Rattle.vm_runner.specs.ByRanks.{by_ranks}
use Rattle.vm_runner.specs.Runnable.{IsRunnable}
use Rattle.vm_runner.proofs.ByRanks.{cut}
use Rattle.vm_runner.specs.Standing.{events_between}
use Rattle.vm_law.proofs.Runnable.{valid_runs_are_runnable}
use Rattle.script.specs.declared.script.ScriptLine.{ScriptLine}
use Rattle.script.specs.declared.script.ScriptLine.TheVariants.{Set, Occur}
use Rattle.script.specs.declared.script.Script.{Script as Read}
use Rattle.vm_releases.specs.Begin.{line_of, lines_of, script_of}
use Rattle.command_due.specs.Text.{events_before, recent}

-- ---- the script of what is due is the script of the machine

same_line : (line : ScriptLine) → lifted.line_of (line_said line) ≡ line_of line
same_line (Set tick dev value) = refl
same_line (Occur tick event) = refl

same_lines : (lines : List ScriptLine) → map lifted.line_of (map line_said lines) ≡ lines_of lines
same_lines [] = refl
same_lines (line ∷ lines) =
    ap (λ (l : Line). l ∷ map lifted.line_of (map line_said lines)) (same_line line)
    ∙ ap (λ (ls : List Line). line_of line ∷ ls) (same_lines lines)

pub same_script : (script : Read) → run_of script.lines script.end ≡ script_of script
same_script script =
    let with : List Line → Script = λ (ls : List Line). record { lines = ls; end_tick = script.end } in
    ap with (same_lines script.lines)

-- ---- the machine

pub is_runnable : (n : NamedImage) (script : Read) → CanRunByRanks n script → IsRunnable n.image (script_of script)
is_runnable n script can = valid_runs_are_runnable n.image (script_of script) can.limits can.valid can.script.frames can.script.order (let end = can.script.end in omega (arith, end))

-- ---- the lines

all_coming : (image : Image) (script : Script) → events image script ≡ coming (by_ranks image script) 0
unfolding events state_at
all_coming image script =
    let all : script.end_tick ≡ script.end_tick - 0 = omega arith in
    ap (λ (n : ℕ). events_from image script n 0 (state_at image script 0)) all

from_start : (image : Image) (script : Script) (t : ℕ) → events_between image script 0 t ≡ events_before image script t
unfolding state_at
from_start image script t =
    let all : t - 0 ≡ t = omega arith in
    ap (λ (n : ℕ). events_from image script n 0 (state_at image script 0)) all

-- the last events before a tick have lines
pub recent_lines : (n : NamedImage) (read : Read) (t : ℕ) → CanRunByRanks n read → t ≤ read.end → All (AreIn n.names) (recent (events_before n.image (script_of read) t))
recent_lines n read t can within =
    let image : Image = n.image in
    let script : Script = script_of read in
    let lines : All (AreIn n.names) (events image script) = valid_runs_have_lines n.names image script can.limits can.valid can.names can.script.end in
    let come : All (AreIn n.names) (coming (by_ranks image script) 0) = subst (λ (es : List Event). All (AreIn n.names) es) (all_coming image script) lines in
    let before : All (AreIn n.names) (events_between image script 0 t) = lines_now (by_ranks image script) (cut image script) n.names 0 t (omega arith) within come in
    let all : All (AreIn n.names) (events_before image script t) = subst (λ (es : List Event). All (AreIn n.names) es) (from_start image script t) before in
    All-drop (AreIn n.names) (length (events_before image script t) - 16) (events_before image script t) all
