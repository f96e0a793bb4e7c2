-- What may stand at a place, told as a choice.
use Rattle.std.specs.Prelude.{ℕ, ◌++◌, List, [], ◌∷◌, codes}

-- what stands before an element, by those behind it: `or` before the last, else a comma
abbrev pub separator : {A : Type 0} → List A → List ℕ
separator [] = codes " or "
separator (next ∷ more) = codes ", "

-- each element behind what stands before it
abbrev pub others : List (List ℕ) → List ℕ
others [] = []
others (one ∷ more) = separator more ++ (one ++ others more)

-- the elements, a comma between them, but `or` before the last of two or more
abbrev pub either : List (List ℕ) → List ℕ
either [] = codes "nothing"
either (one ∷ more) = one ++ others more
