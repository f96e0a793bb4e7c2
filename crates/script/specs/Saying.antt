-- What one line of a script says: words with one space between them, and numbers in decimal.
use Rattle.std.specs.Prelude.{◌≡◌, ◌≤◌, ◌<◌, ℕ, ℤ, List, [], ◌∷◌, ◌++◌, codes, decimal}
use Rattle.std.specs.Fmt.{signed_decimal}
use Rattle.text_fields.specs.Fields.{spaced, IsWord, Is32}

pub data Said : Type 0 where
  -- the device of this name is set to the value
  set : (tick : ℕ) (dev : List ℕ) (value : ℤ) → Said
  -- the event of this name occurs
  event : (tick : ℕ) (name : List ℕ) → Said
  -- the run ends before this tick
  end : (tick : ℕ) → Said

-- the line without its LF
abbrev pub spelled : Said → List ℕ
spelled (set tick dev value) = spaced (decimal tick ∷ codes "set" ∷ dev ∷ signed_decimal value ∷ [])
spelled (event tick name) = spaced (decimal tick ∷ codes "event" ∷ name ∷ [])
spelled (end tick) = spaced (codes "end" ∷ decimal tick ∷ [])

-- a tick is 0 .. 999,999,999, an end 0 .. 1,000,000,000, and a value has 32 bits
abbrev pub IsInForm : Said → Type 0
IsInForm (set tick dev value) = (tick < 1000000000) × IsWord dev × Is32 value
IsInForm (event tick name) = (tick < 1000000000) × IsWord name
IsInForm (end tick) = tick ≤ 1000000000

-- the lines that say these, each with its LF
abbrev pub text_of : List Said → List ℕ
text_of [] = []
text_of (said ∷ more) = spelled said ++ 10 ∷ text_of more

-- the bytes begin with a line that says this, and then come the rest
pub record Begins (bytes : List ℕ) (said : Said) (rest : List ℕ) : Type 0 where
  pub form : IsInForm said
  pub text : bytes ≡ spelled said ++ 10 ∷ rest
