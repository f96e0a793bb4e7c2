-- A script of which the lines before a tick are passed.
use Rattle.std.specs.Prelude.{◌≡◌, ◌≤◌, ℕ, ℤ, pos, Bool, true, cond, ◌&&◌, List, [], ◌∷◌, drop, length, map, nat_eq, nat_le, slice_index_or}
use Rattle.syntax_tree.specs.Plain.{Program}
use Rattle.source_semantics.specs.Config.{Config}
use Rattle.source_semantics.specs.Starts.{Script, device_value, event_releases, value_set}
use Rattle.script.specs.declared.script.ScriptLine.{ScriptLine}
use Rattle.script.specs.declared.script.ScriptLine.TheVariants as line_is
use Rattle.script.specs.Scripts.{tick_of}
use Rattle.script.specs.Meaning.{line_said, said}
use Rattle.replay_script.specs.declared.cursor.ScriptCursor.{ScriptCursor}

-- the ticks of the lines do not descend, and none is before t
abbrev pub are_in_order : ℕ → List ScriptLine → Bool
are_in_order t [] = true
are_in_order t (l ∷ ls) = nat_le t (tick_of l) && are_in_order (tick_of l) ls

-- the first lines, up to the first that is after t
abbrev pub until : ℕ → List ScriptLine → List ScriptLine
until t [] = []
until t (l ∷ ls) = cond (nat_le (tick_of l) t) (l ∷ until t ls) []

-- the word of device d after a line, where it was v before it
abbrev pub word_after : ℕ → ℤ → ScriptLine → ℤ
word_after d v (line_is.Set t e w) = cond (nat_eq e d) w v
word_after d v (line_is.Occur t e) = v

abbrev pub word : ℕ → List ℤ → ℤ
word d words = slice_index_or words d (pos 0)

-- so many lines are passed: from tick t on, the others release what all release, and devices answer
-- the words that are kept until one of the others sets them
pub record ArePassed (t done : ℕ) (lines : List ScriptLine) (kept : List ℤ) : Type 0 where
  pub releases : (g : Program) (c : Config) (u : ℕ) → t ≤ u → event_releases g c u (map line_said lines) ≡ event_releases g c u (map line_said (drop done lines))
  pub words : (u d : ℕ) → t ≤ u → value_set u d (pos 0) (map line_said lines) ≡ value_set u d (word d kept) (map line_said (drop done lines))

abbrev pub lines_of : ScriptCursor → List ScriptLine
lines_of s = s.script.now.lines

abbrev pub script_in : ScriptCursor → Script
script_in s = said s.script.now.lines s.script.now.end

-- The lines before the tick reached are passed. Where the script is in order, no other line is
-- before that tick.
pub record IsCursor (s : ScriptCursor) : Type 0 where
  pub order : s.in_order ≡ are_in_order 0 (lines_of s)
  pub room : length s.words.items ≡ 65536
  pub within : s.done ≤ length (lines_of s)
  pub passed : ArePassed s.reached s.done (lines_of s) s.words.items
  pub coming : s.in_order ≡ true → are_in_order s.reached (drop s.done (lines_of s)) ≡ true

-- it has reached tick t
pub record IsAt (t : ℕ) (s : ScriptCursor) : Type 0 where
  pub cursor : IsCursor s
  pub reached : s.reached ≡ t

-- it has not gone beyond tick t
pub record IsWithin (t : ℕ) (s : ScriptCursor) : Type 0 where
  pub cursor : IsCursor s
  pub reached : s.reached ≤ t
