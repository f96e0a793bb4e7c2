-- From the lines of a text to the lines of a run.
use Rattle.std.proofs.Common.{◌≡◌, ◌≤◌, ℕ, suc, List, [], ◌∷◌, map, arith, refl, ap, sym, subst}
use Rattle.std.specs.Prelude.{AllPairs}
use Rattle.code_lifting.specs.Compiled as lifted
use Rattle.code_lifting.specs.Compiled.{IsFrom}
use Rattle.script.specs.declared.script.ScriptLine.{ScriptLine}
use Rattle.script.specs.declared.script.ScriptLine.TheVariants.{Set, Occur}
use Rattle.script.specs.Scripts.{IsLater, tick_of}
use Rattle.script.specs.Meaning.{line_said}
use Rattle.command_due.specs.Script.{run_of}
use Rattle.built_image.specs.Named.{names_of}
use Rattle.vm_releases.specs.Begin.{lines_of}
use Rattle.vm_law.specs.Suits.{Suits}
use Rattle.vm_law.specs.ScriptSuits.{ScriptsSuit, script_with}
use Rattle.built_image_law.specs.Suits.{NamesHaveFrames, ScriptsAreInOrder, ScriptsForTheNamesSuit}

-- ---- the order

tick_is : (x : ScriptLine) → lifted.tick_of (line_said x) ≡ tick_of x
tick_is (Set tick dev value) = refl
tick_is (Occur tick event) = refl

-- the first of the lines, if there is one, is no earlier
abbrev NotBefore : ℕ → List ScriptLine → Type 0
NotBefore t [] = Unit {0}
NotBefore t (x ∷ xs) = t ≤ tick_of x

next : (x : ScriptLine) (xs : List ScriptLine) → AllPairs IsLater (x ∷ xs) → NotBefore (lifted.tick_of (line_said x)) xs
next x [] all = tt
next x (y ∷ ys) all =
    let later : tick_of x ≤ tick_of y = all 0 1 x (omega arith) (omega arith) in
    let same : lifted.tick_of (line_said x) ≡ tick_of x = tick_is x in
    let goal : lifted.tick_of (line_said x) ≤ tick_of y = omega (arith, later, same) in
    goal

rest_of : (x : ScriptLine) (xs : List ScriptLine) → AllPairs IsLater (x ∷ xs) → AllPairs IsLater xs
rest_of x xs all i j d before within = all (suc i) (suc j) d (omega (arith, before)) (omega (arith, within))

in_order : (t : ℕ) (lines : List ScriptLine) → AllPairs IsLater lines → NotBefore t lines → IsFrom t (map line_said lines)
in_order t [] all low = tt
in_order t (x ∷ xs) all low =
    let l : t ≤ tick_of x = low in
    let same : lifted.tick_of (line_said x) ≡ tick_of x = tick_is x in
    let first : t ≤ lifted.tick_of (line_said x) = omega (arith, l, same) in
    (first, in_order (lifted.tick_of (line_said x)) xs (rest_of x xs all) (next x xs all))

from_zero : (lines : List ScriptLine) → NotBefore 0 lines
from_zero [] = tt
from_zero (x ∷ xs) = omega arith

pub scripts_are_in_order : ScriptsAreInOrder
scripts_are_in_order names text lines end script = in_order 0 lines script.begun.respects.order (from_zero lines)

-- ---- the run

same_lines : (lines : List ScriptLine) → map lifted.line_of (map line_said lines) ≡ lines_of lines
same_lines [] = refl
same_lines (Set tick dev value ∷ lines) = ap (λ ls. lifted.line_of (line_said (Set tick dev value)) ∷ ls) (same_lines lines)
same_lines (Occur tick event ∷ lines) = ap (λ ls. lifted.line_of (line_said (Occur tick event)) ∷ ls) (same_lines lines)

-- the run of a script is one to the meaning of programs and to the machine
pub same_run : (lines : List ScriptLine) (end : ℕ) → run_of lines end ≡ script_with lines end
same_run lines end = ap (λ ls. record { lines = ls; end_tick = end }) (same_lines lines)

pub scripts_suit : NamesHaveFrames → ScriptsSuit → ScriptsForTheNamesSuit
scripts_suit frames suit g m text lines end formed code script =
    subst (Suits m) (sym (same_run lines end)) (suit (names_of g) m text lines end (frames g m formed code) script)
