-- Which lines of a text have their form, and which are right.
use Rattle.std.specs.Prelude.{◌≡◌, ◌<◌, ◌⊎◌, ℕ, suc, Bool, true, false, List, [], length, take, drop, codes}
use Rattle.text_fields.specs.Front.{begins}
use Rattle.text_fields.specs.LineFields.{digits_len, is_numeral, small, value}
use Rattle.asm_lines.specs.Names.{word_len}
use Rattle.asm_lines.specs.TreeForm.{is_tree_line}
use Rattle.asm_law.specs.Notes.{Holds, IsWrong}
use Rattle.asm_law.specs.Layout.{Layout, finish, done, none, word, choice, numeral, name, note, tree, left, too_deep, ends}

-- The bytes begin with a line of this form; fine where nothing that is asked of it is wrong. Behind
-- it comes this layout, and these bytes are left. The end of the text counts as a line.
abbrev pub HasForm : Layout → (bytes : List ℕ) → (fine : Bool) → (next : Layout) → (rest : List ℕ) → Type 0
HasForm finish bytes fine next rest = (bytes ≡ []) × (fine ≡ true) × (next ≡ finish) × (rest ≡ [])
HasForm done bytes fine next rest = (fine ≡ true) × (next ≡ done) × (rest ≡ bytes)
HasForm none bytes fine next rest = ⊥
HasForm (word w l) bytes fine next rest = (begins w bytes ≡ true) × HasForm l (drop (length w) bytes) fine next rest
HasForm (choice w l other) bytes fine next rest = ((begins w bytes ≡ true) × HasForm l bytes fine next rest) ⊎ ((begins w bytes ≡ false) × HasForm other bytes fine next rest)
HasForm (numeral l) bytes fine next rest =
    (is_numeral (take (digits_len bytes) bytes) ≡ true) × HasForm (l (small (value (take (digits_len bytes) bytes)))) (drop (digits_len bytes) bytes) fine next rest
HasForm (name l) bytes fine next rest = (0 < word_len bytes) × HasForm (l (take (word_len bytes) bytes)) (drop (word_len bytes) bytes) fine next rest
HasForm (note x l) bytes fine next rest =
    (Holds x × HasForm l bytes fine next rest) ⊎ (IsWrong x × (fine ≡ false) × ((other : Bool) × HasForm l bytes other next rest))
HasForm (tree l) bytes fine next rest = (is_tree_line bytes ≡ true) × HasForm l bytes fine next rest
HasForm (left l) bytes fine next rest = HasForm (l (length bytes)) bytes fine next rest
HasForm too_deep bytes fine next rest = fine ≡ false
HasForm (ends l) bytes fine next rest = (begins (codes "\n") bytes ≡ true) × (fine ≡ true) × (next ≡ l) × (rest ≡ drop 1 bytes)

-- The bytes begin with a line of this form, of which nothing is wrong.
abbrev pub IsRightLine : Layout → (bytes : List ℕ) → (next : Layout) → (rest : List ℕ) → Type 0
IsRightLine l bytes next rest = HasForm l bytes true next rest

-- Behind so many right lines this layout comes, and these bytes are left.
pub data Behind : Layout → List ℕ → (lines : ℕ) → Layout → List ℕ → Type 0 where
  here : (l : Layout) (bytes : List ℕ) → Behind l bytes 0 l bytes
  line : {l m n : Layout} {bytes more rest : List ℕ} {lines : ℕ} → IsRightLine l bytes m more → Behind m more lines n rest → Behind l bytes (suc lines) n rest

-- No line of this form is there.
abbrev pub LacksForm : Layout → List ℕ → Type 0
LacksForm l bytes = (fine : Bool) (next : Layout) (rest : List ℕ) → HasForm l bytes fine next rest → ⊥

-- A line of this form is there, and something that is asked of it is wrong.
abbrev pub IsWrongLine : Layout → List ℕ → Type 0
IsWrongLine l bytes = (next : Layout) × (rest : List ℕ) × HasForm l bytes false next rest
