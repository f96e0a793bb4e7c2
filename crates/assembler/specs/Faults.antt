-- The fault of a text that is that of no image.
use Rattle.std.specs.Prelude.{◌≡◌, ◌≤◌, ◌<◌, ◌⊎◌, ℕ, List, length, Err}
use Rattle.text_fields.specs.Front.{fault}
use Rattle.assembler.specs.Sections.{line_at, text_read}

-- how many bytes the text of an image has at most
abbrev pub longest_text : ℕ
longest_text = 8388608

-- A3, on line 0: the text is too long
pub record IsLong (text : List ℕ) (number line : ℕ) : Type 0 where
  pub long : longest_text < length text
  pub is : number ≡ 3
  pub nowhere : line ≡ 0

-- A1 and A2: the first line that is none of its place, and the least number of its faults
pub record HasFault (text : List ℕ) (number line : ℕ) : Type 0 where
  pub short : length text ≤ longest_text
  pub left : ℕ
  pub is_read : text_read text ≡ Err (fault number left)
  pub place : line ≡ line_at text left

abbrev pub IsFaultOf : (text : List ℕ) → (number line : ℕ) → Type 0
IsFaultOf text number line = IsLong text number line ⊎ HasFault text number line
