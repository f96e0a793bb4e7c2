-- Where the bytes of a file have a fault: behind fields that are in their ranges.
use Rattle.std.specs.Prelude.{◌≡◌, ◌<◌, ◌++◌, ℕ, List, length}
use Rattle.image_reader_law.specs.Fields.{Field, size_of, Right, Wrong, Rule, Keeps, Breaks}
use Rattle.image_reader_law.specs.Layout.{Layout, field, rule}

-- Behind some fields of the layout, which are right and whose rules are kept, stand these fields
-- and these bytes.
pub data Reaches : Layout → List ℕ → Layout → List ℕ → Type 0 where
  here : (l : Layout) (bytes : List ℕ) → Reaches l bytes l bytes
  behind_field : {f : Field} {next : List ℕ → Layout} (value : List ℕ) {rest bytes : List ℕ} {l : Layout}
      → length value ≡ size_of f → Right f value → Reaches (next value) bytes l rest → Reaches (field f next) (value ++ bytes) l rest
  behind_rule : {r : Rule} {back : ℕ} {next l : Layout} {rest bytes : List ℕ}
      → Keeps r → Reaches next bytes l rest → Reaches (rule r back next) bytes l rest

-- the bytes end inside the field
abbrev pub EndsInside : Layout → List ℕ → Type 0
EndsInside l rest = (f : Field) × (next : List ℕ → Layout) × (l ≡ field f next) × (length rest < size_of f)

-- the field is there, and wrong
pub record HasWrong (l : Layout) (rest : List ℕ) (fault : ℕ) : Type 0 where
  pub f : Field
  pub next : List ℕ → Layout
  pub is : l ≡ field f next
  pub value : List ℕ
  pub more : List ℕ
  pub bytes_are : rest ≡ value ++ more
  pub long : length value ≡ size_of f
  pub wrong : Wrong f value fault

-- a rule is broken, whose fault stands so many bytes back
pub record BreaksRule (l : Layout) (fault back : ℕ) : Type 0 where
  pub r : Rule
  pub next : Layout
  pub is : l ≡ rule r back next
  pub breaks : Breaks r fault
