-- What is said of a place of a program at which types or numbers of arguments do not agree.
use Rattle.std.specs.Prelude.{ℕ, ◌==◌, List, [], ◌∷◌, Option, Some, None, option_map, if◌then◌else◌}
use Rattle.std.specs.Option.{option_or}
use Rattle.syntax_tree.specs.Placed.{Scalar, Expr, Stmt, Prog}
use Rattle.syntax_tree.specs.Parts.{same_place}
use Rattle.syntax_tree.specs.declared.place.Place.{Place}
use Rattle.static_declarations.specs.Things.{named_at, sort_of}
use Rattle.static_declarations.specs.Parts.{Part, statement, answer, stmt_place, parts}
use Rattle.message_conduct.specs.Told.{routine_name}
use Rattle.message_types.specs.Mismatches.{Mismatch, result_of, unfit, stmt_mismatch}
use Rattle.message_types.specs.Sentences.{sentence}

-- what does not agree in a statement, those in it aside, if it stands at the place
abbrev pub stmt_mismatch_at : Prog Place → Place → Stmt Place → Option Mismatch
stmt_mismatch_at g place s = if same_place (stmt_place s) place then stmt_mismatch (named_at g) s else None

-- what does not agree in the result of a function, if the function's name stands at the place
abbrev pub result_mismatch_at : Prog Place → Place → (name : Place) → Scalar Place → Expr Place → Option Mismatch
result_mismatch_at g place name kind e = if same_place name place then unfit (named_at g) (result_of (routine_name g name)) (sort_of kind) e else None

abbrev pub mismatch_at : Prog Place → Place → Part → Option Mismatch
mismatch_at g place (statement here s) = stmt_mismatch_at g place s
mismatch_at g place (answer name kind e) = result_mismatch_at g place name kind e

-- the first that does not agree in these parts, at the place
abbrev pub first_mismatch : Prog Place → Place → List Part → Option Mismatch
first_mismatch g place [] = None
first_mismatch g place (p ∷ ps) = option_or (mismatch_at g place p) (first_mismatch g place ps)

-- what is said of the first statement or result at the place in which types or numbers of arguments
-- do not agree; nothing where all there agree, and of other rules
unfoldable pub type_sentence : Prog Place → (number : ℕ) → Place → Option (List ℕ)
type_sentence g number place = if number == 30 then option_map sentence (first_mismatch g place (parts g)) else None
