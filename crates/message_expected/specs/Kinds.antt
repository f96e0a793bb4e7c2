-- The kinds of what may stand at a place of a text, and how they are written and told.
use Rattle.std.specs.Prelude.{ℕ, zero, suc, Bool, true, false, ◌==◌, ◌++◌, List, [], ◌∷◌, None, Option, Some, codes, length}
use Rattle.std.specs.List.{list_any, slice_index_or}
use Rattle.syntax.specs.Spellings.{keywords, signs}
use Rattle.syntax.specs.declared.token.Token.{Token}
use Rattle.syntax.specs.declared.token.TokenKind.{TokenKind}
use Rattle.syntax.specs.declared.token.TokenKind.TheVariants as token
use Rattle.message_text.specs.Words.{quoted}
use Rattle.message_expected.specs.declared.kinds.Kind.{Kind}
use Rattle.message_expected.specs.declared.kinds.Kind.TheVariants.{End, Name, Number, Deadline, Keyword, Sign}

-- what a maker makes of the numbers from 0 to below this one
unfoldable pub numbered : (make : ℕ → Kind) (count : ℕ) → List Kind
numbered make zero = []
numbered make (suc count) = numbered make count ++ make count ∷ []

-- all kinds in their order: the end of the text, a name, a number, `deadline`, the keywords and the
-- signs, both in the order of their lists
unfoldable pub kinds : List Kind
kinds = (End ∷ Name ∷ Number ∷ Deadline ∷ []) ++ (numbered Keyword (length keywords) ++ numbered Sign (length signs))

-- the bytes of a word of the kind: one name and one number for all, since all stand where one does
abbrev pub spelling : Kind → List ℕ
spelling End = []
spelling Name = codes "a"
spelling Number = codes "1"
spelling Deadline = codes "deadline"
spelling (Keyword at) = slice_index_or keywords at []
spelling (Sign at) = slice_index_or signs at []

-- how the kind is told
abbrev pub told : Kind → List ℕ
told End = codes "the end of the text"
told Name = codes "a name"
told Number = codes "a number"
told Deadline = quoted (codes "deadline")
told (Keyword at) = quoted (slice_index_or keywords at [])
told (Sign at) = quoted (slice_index_or signs at [])

-- the kinds are one
abbrev pub same : Kind → Kind → Bool
same End End = true
same Name Name = true
same Number Number = true
same Deadline Deadline = true
same (Keyword at) (Keyword other) = at == other
same (Sign at) (Sign other) = at == other
same kind other = false

-- the kind is among these
abbrev pub has : (found : List Kind) (kind : Kind) → Bool
has found kind = list_any (same kind) found

-- the kind of a token
abbrev pub of_token : TokenKind → Kind
of_token token.Ident = Name
of_token (token.Keyword at) = Keyword at
of_token (token.Literal value) = Number
of_token (token.Sign at) = Sign at

-- the kind of a token, or of the end where there is none
abbrev pub kind_of : Option Token → Kind
kind_of None = End
kind_of (Some t) = of_token t.kind
