-- What holds of a format whose reading and writing belong together.
use Rattle.std.specs.Prelude.{◌≡◌, ◌<◌, ◌++◌, ℕ, true, List, [], ◌∷◌, length, take, Ok, Err}
use Rattle.image_format.specs.Format.{Format, fault}

-- the numbers of a list are bytes
abbrev pub AreBytes : List ℕ → Type 0
AreBytes [] = Unit {0}
AreBytes (b ∷ bs) = (b < 256) × AreBytes bs

pub record IsSound {A : Type 0} (f : Format A) : Type 0 where
  -- what is read is what is written, and in its range
  pub back : (bytes : List ℕ) (x : A × List ℕ) → AreBytes bytes → f.read bytes ≡ Ok x → (bytes ≡ f.write x.0 ++ x.1) × (f.is x.0 ≡ true)
  -- what is in its range is read as it was written, whatever follows
  pub again : (x : A) (rest : List ℕ) → f.is x ≡ true → f.read (f.write x ++ rest) ≡ Ok (x, rest)
  -- what was written and is cut ends inside a field
  pub cut : (x : A) (k : ℕ) → f.is x ≡ true → k < length (f.write x) → f.read (take k (f.write x)) ≡ Err (fault 2 0)
