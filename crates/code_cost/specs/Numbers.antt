-- The premise on the numbers of routines.
use Rattle.std.specs.Prelude.{◌≡◌, Some, Contains, slice_get}
use Rattle.syntax_tree.specs.Plain.{Program}
use Rattle.code_spec.specs.Numbering.{Text, texts_from, numbered, number_of}

-- each routine and entry stands under its number, as in every checked program
abbrev pub HaveNumbers : Program → Type 0
HaveNumbers g = (t : Text) → Contains (texts_from 0 0 g.decls) t → slice_get (numbered g) (number_of g t) ≡ Some t
