-- The values that a script sets have 32 bits, and its end is a tick of a log.
use Rattle.std.proofs.Common.{◌≡◌, ℕ, ℤ, List, [], ◌∷◌, map, Option, Some, None, subst}
use Rattle.std.specs.Prelude.{All, option_map}
use Rattle.std.proofs.lemmas.List.Elements.{All-nil, All-cons, All-head, All-tail}
use Rattle.text_fields.specs.Fields.{Is32}
use Rattle.image.specs.declared.names.ImageNames.{ImageNames}
use Rattle.script.specs.declared.script.ScriptLine.{ScriptLine}
use Rattle.script.specs.declared.script.ScriptLine.TheVariants.{Set, Occur}
use Rattle.script.specs.Saying.{Said, set, event, end, IsInForm}
use Rattle.script.specs.Scripts.{IsScript, in_device, event_number, meaning}
use Rattle.script.specs.Meaning.{line_said}
use Rattle.command_due.specs.Script.{run_of}
use Rattle.code_lifting.specs.Compiled.{line_of}
use Rattle.replay_law.specs.RunWords.{SetsWord}

-- the line sets such a value, if it sets one
abbrev LineFits : ScriptLine → Type 0
LineFits line = SetsWord (line_of (line_said line))

set_fits : (o : Option ℕ) (tick : ℕ) (value : ℤ) (line : ScriptLine) → Is32 value → option_map (λ (number : ℕ). Set tick number value) o ≡ Some line → LineFits line
set_fits None tick value line word is = absurd cc
set_fits (Some number) tick value line word is = let same : Set tick number value ≡ line = cc in subst LineFits same word

occur_fits : (o : Option ℕ) (tick : ℕ) (line : ScriptLine) → option_map (λ (number : ℕ). Occur tick number) o ≡ Some line → LineFits line
occur_fits None tick line is = absurd cc
occur_fits (Some number) tick line is = let same : Occur tick number ≡ line = cc in subst LineFits same tt

means_fits : (names : ImageNames) (said : Said) (line : ScriptLine) → IsInForm said → meaning names said ≡ Some line → LineFits line
means_fits names (set tick dev value) line form is = set_fits (in_device names dev) tick value line form.2 is
means_fits names (event tick name) line form is = occur_fits (event_number names name) tick line is
means_fits names (end tick) line form is = absurd cc

lines_fit : (names : ImageNames) (said : List Said) (lines : List ScriptLine) → All IsInForm said → map (meaning names) said ≡ map (λ line. Some line) lines → All SetsWord (map line_of (map line_said lines))
lines_fit names said [] form means = All-nil SetsWord
lines_fit names [] (line ∷ lines) form means = absurd cc
lines_fit names (s ∷ said) (line ∷ lines) form means =
    let first : meaning names s ≡ Some line = cc in
    let rest : map (meaning names) said ≡ map (λ line. Some line) lines = cc in
    All-cons SetsWord (line_of (line_said line)) (map line_of (map line_said lines)) (means_fits names s line (All-head IsInForm s said form) first)
    (lines_fit names said lines (All-tail IsInForm s said form) rest)

pub script_fits : (names : ImageNames) (text : List ℕ) (lines : List ScriptLine) (last : ℕ) → IsScript names text lines last → All SetsWord (run_of lines last).lines
script_fits names text lines last is = lines_fit names is.said lines is.begun.form is.begun.means
