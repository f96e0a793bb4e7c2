-- The script of what is due is the script of the machine.
use Rattle.std.proofs.Common.{◌≡◌, List, [], ◌∷◌, map, refl, ap, ◌∙◌}
use Rattle.script.specs.Meaning.{line_said}
use Rattle.command_due.specs.Script.{run_of}
use Rattle.code_lifting.specs.Compiled as lifted
use Rattle.machine_semantics.specs.Image.{Line, Script}
use Rattle.script.specs.declared.script.ScriptLine.{ScriptLine}
use Rattle.script.specs.declared.script.ScriptLine.TheVariants.{Set, Occur}
use Rattle.script.specs.declared.script.Script.{Script as Read}
use Rattle.vm_releases.specs.Begin.{line_of, lines_of, script_of}

same_line : (line : ScriptLine) → lifted.line_of (line_said line) ≡ line_of line
same_line (Set tick dev value) = refl
same_line (Occur tick event) = refl

pub same_lines : (lines : List ScriptLine) → map lifted.line_of (map line_said lines) ≡ lines_of lines
same_lines [] = refl
same_lines (line ∷ lines) =
    ap (λ (l : Line). l ∷ map lifted.line_of (map line_said lines)) (same_line line)
    ∙ ap (λ (ls : List Line). line_of line ∷ ls) (same_lines lines)

pub same_script : (script : Read) → run_of script.lines script.end ≡ script_of script
same_script script =
    let with : List Line → Script = λ (ls : List Line). record { lines = ls; end_tick = script.end } in
    ap with (same_lines script.lines)
