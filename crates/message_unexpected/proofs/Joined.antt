-- Parts that are put one behind another.
use Rattle.std.proofs.Common.{◌≡◌, ℕ, ◌+◌, List, ◌++◌, Option, length, slice_get, ap, subst, ◌∙◌, append_assoc}
use Rattle.syntax.proofs.LawLemmas.{one_list}
use Rattle.syntax.specs.Tokens.{tokens}
use Rattle.syntax.specs.declared.token.Token.{Token}
use Rattle.syntax_tree.specs.declared.place.Place.{Place}
use Rattle.message_expected.specs.Expected.{IsExpectedSet, before, front, last}
use Rattle.message_expected.specs.Kinds.{kind_of}
use Rattle.message_expected.specs.Notes.{expected_note}
use Rattle.message_unexpected.specs.Parts.{open_note, show_before}
use Rattle.message_unexpected.specs.Remarks.{remark_note}
use Rattle.message_unexpected.specs.Unexpected.{Notes, notes_behind, unexpected_notes}
use Rattle.message_expected.specs.declared.kinds.Kind.{Kind}

pub joined : (old first middle last one two three : List ℕ) → one ≡ old ++ first → two ≡ one ++ middle → three ≡ two ++ last → three ≡ old ++ (first ++ (middle ++ last))
joined old first middle last one two three a b c =
    c ∙ ap (λ l. l ++ last) (b ∙ ap (λ l. l ++ middle) a) ∙ append_assoc (old ++ first) middle last ∙ append_assoc old first (middle ++ last)

-- the notes of one place
pub put_together : (text : List ℕ) (line : ℕ) (toks first : List Token) (found : List Kind) (word behind : Option Token) (m0 m1 m2 m3 m4 : List ℕ)
    → word ≡ slice_get toks (length first) → behind ≡ slice_get toks (length first + 1) → m1 ≡ m0 ++ expected_note text first found → m2 ≡ m1 ++ show_before text line (last first)
    → m3 ≡ m2 ++ open_note text first (kind_of word) found → m4 ≡ m3 ++ remark_note text line first word behind found → m4 ≡ m0 ++ notes_behind text line toks first found
put_together text line toks first found word behind m0 m1 m2 m3 m4 w v one two three four =
    let part = show_before text line (last first) in
    let opened = open_note text first (kind_of word) found in
    let said = remark_note text line first word behind found in
    joined m1 part opened said m2 m3 m4 two three four ∙ ap (λ l. l ++ (part ++ (opened ++ said))) one ∙ append_assoc m0 (expected_note text first found) (part ++ (opened ++ said))
    ∙ (λ i. m0 ++ (expected_note text first found ++ (part ++ (open_note text first (kind_of (w i)) found ++ remark_note text line first (w i) (v i) found))))

-- they are those of the tokens of the text
pub of_tokens : (text : List ℕ) (place : Place) (list all first toks : List Token) (found : List Kind) (old new : List ℕ) → all ≡ list → first ≡ before all place
    → tokens text list → tokens text toks → IsExpectedSet (front text first) found → new ≡ old ++ notes_behind text place.line all first found → Notes text toks place old new
unfolding unexpected_notes
of_tokens text place list all first toks found old new a f listed also set put =
    let same : all ≡ toks = a ∙ one_list text list toks listed also in
    let firsts : first ≡ before toks place = f ∙ ap (λ l. before l place) same in
    record {
      found = found;
      all = subst (λ l. IsExpectedSet (front text l) found) firsts set;
      is = put ∙ (λ i. old ++ notes_behind text place.line (same i) (firsts i) found);
    }
