-- The notes at a place where a text goes on with no word of the grammar.
use Rattle.std.specs.Prelude.{◌≡◌, ℕ, ◌+◌, ◌++◌, List, length, slice_get}
use Rattle.syntax.specs.declared.token.Token.{Token}
use Rattle.syntax_tree.specs.declared.place.Place.{Place}
use Rattle.message_expected.specs.Expected.{IsExpectedSet, before, front, last}
use Rattle.message_expected.specs.Kinds.{kind_of}
use Rattle.message_expected.specs.Notes.{expected_note}
use Rattle.message_unexpected.specs.Parts.{open_note, show_before}
use Rattle.message_unexpected.specs.Remarks.{remark_note}
use Rattle.message_expected.specs.declared.kinds.Kind.{Kind}

-- behind the first tokens, at this place: what is expected, what is still open, and what can be done
abbrev pub notes_behind : (text : List ℕ) (line : ℕ) (toks first : List Token) (found : List Kind) → List ℕ
notes_behind text line toks first found =
    expected_note text first found
    ++ (show_before text line (last first)
    ++ (open_note text first (kind_of (slice_get toks (length first))) found
    ++ remark_note text line first (slice_get toks (length first)) (slice_get toks (length first + 1)) found))

-- the notes at a place, of a text with these tokens, where these kinds are expected
unfoldable pub unexpected_notes : (text : List ℕ) (toks : List Token) (place : Place) (found : List Kind) → List ℕ
unexpected_notes text toks place found = notes_behind text place.line toks (before toks place) found

-- a text gets the notes at a place: they are made of exactly the kinds that are expected there
pub record Notes (text : List ℕ) (toks : List Token) (place : Place) (old new : List ℕ) : Type 0 where
  pub found : List Kind
  pub all : IsExpectedSet (front text (before toks place)) found
  pub is : new ≡ old ++ unexpected_notes text toks place found
