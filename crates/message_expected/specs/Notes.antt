-- The note of what is expected.
use Rattle.std.specs.Prelude.{ℕ, ◌++◌, List, Option, None, Some, codes}
use Rattle.syntax.specs.declared.token.Token.{Token}
use Rattle.syntax.specs.Tokens.{bytes_of}
use Rattle.message_text.specs.Either.{either}
use Rattle.message_text.specs.Words.{note, quoted}
use Rattle.message_expected.specs.Expected.{last}
use Rattle.message_expected.specs.Groups.{expectations}
use Rattle.message_expected.specs.declared.kinds.Kind.{Kind}

-- behind the last token, or at the start where there is none
abbrev pub sentence : (text : List ℕ) → Option Token → (all : List (List ℕ)) → List ℕ
sentence text None all = codes "expected " ++ (either all ++ codes " at the start")
sentence text (Some token) all = codes "after " ++ (quoted (bytes_of text token) ++ (codes " expected " ++ either all))

-- what is expected behind these tokens
unfoldable pub expected_note : (text : List ℕ) (before : List Token) (found : List Kind) → List ℕ
expected_note text before found = note (sentence text (last before) (expectations found))
