-- What the tests of a word, and of a line by its words, say.
use Rattle.std.proofs.Common.{◌≡◌, ◌≤◌, ℕ, Bool, true, false, not, List, Option, Some, None, length, refl, sym, ◌∙◌, subst, All, Contains}
use Rattle.std.specs.Prelude.{◌↔◌, IsTrue, IfSome, IfNone, is_some, slice_get}
use Rattle.std.proofs.lemmas.Bool.{false≢true}
use Rattle.std.proofs.lemmas.Option.{slice_get_within, get_or_from_slice_get}
use Rattle.syntax.specs.Spellings.{is_identifier}
use Rattle.text_fields.specs.Fields.{Lacks, IsCutAt}
use Rattle.text_fields.specs.declared.cut.Cut.{Cut}
use Rattle.text_fields.proofs.Cuts.{cut_lacks}
use Rattle.table_format.specs.Spelling.{Word, SaidLine}
use Rattle.table_format.specs.Rules.{names_of_line, IsOneActivation}
use Rattle.table_format.specs.Faults.{is_numeral, IsTableWord, IsFormed, meant, numbers}

-- nothing is cut where the value is not
pub lacks_is : (stop : ℕ) (bytes : List ℕ) (cut : Option Cut) (r : Bool) → IfSome cut (λ c. IsCutAt stop bytes c.before.now c.after.now) → IfNone cut (Lacks stop bytes)
    → is_some cut ≡ not r → IsTrue r ↔ Lacks stop bytes
lacks_is stop bytes (Some c) true found none is = absurd (false≢true (sym is))
lacks_is stop bytes (Some c) false found none is = ((λ e. absurd (false≢true e)), (λ l. absurd (cut_lacks stop bytes c.before.now c.after.now l found.whole)))
lacks_is stop bytes None true found none is = ((λ e. none), (λ l. refl))
lacks_is stop bytes None false found none is = absurd (false≢true is)

-- ---- names

-- a word that is found is one of them
pub among_is : (words : List Word) (word : Word) (at : Option ℕ) (r : Bool) → IfSome at (λ k. slice_get words k ≡ Some word) → IfNone at (¬ Contains words word)
    → r ≡ is_some at → IsTrue r ↔ Contains words word
among_is words word (Some k) r found none is =
    ((λ e. (k, slice_get_within words k word found, get_or_from_slice_get words k word word found)), (λ h. is))
among_is words word None r found none is = ((λ e. absurd (false≢true (sym is ∙ e))), (λ h. absurd (none h)))

-- an identifier that is short enough is a name where it is no keyword
pub name_is : (keywords : List Word) (word : Word) (k : Bool) → IsTrue (is_identifier word) → length word ≤ 63 → (IsTrue k ↔ Contains keywords word)
    → IsTrue (not k) ↔ (IsTrue (is_identifier word) × (¬ Contains keywords word) × (length word ≤ 63))
name_is keywords word true id short key = ((λ e. absurd (false≢true e)), (λ n. absurd (n.1 (key.0 refl))))
name_is keywords word false id short key = ((λ e. (id, (λ h. absurd (false≢true (key.1 h))), short)), (λ n. refl))

-- ---- lines with a form

-- it has one activation, words in the places of names and numerals in those of numbers
pub formed_is : (s : SaidLine) (names counts : List Word) (r : Bool) → IsOneActivation (meant s) → names ≡ names_of_line (meant s) → counts ≡ numbers s
    → All IsTableWord names → (IsTrue r ↔ All (λ word. IsTrue (is_numeral word)) counts) → IsTrue r ↔ IsFormed s
formed_is s names counts r one names_are counts_are words numerals = (
  (λ e. record {
    words = subst (All IsTableWord) names_are words;
    numbers = subst (All (λ word. IsTrue (is_numeral word))) counts_are (numerals.0 e);
    activation = one;
  }),
  (λ form. numerals.1 (subst (All (λ word. IsTrue (is_numeral word))) (sym counts_are) form.numbers)),
)

-- some word in the place of a name is none
pub not_formed : (s : SaidLine) (names : List Word) → names ≡ names_of_line (meant s) → ¬ All IsTableWord names → IsTrue false ↔ IsFormed s
not_formed s names names_are bad = ((λ e. absurd (false≢true e)), (λ form. absurd (bad (subst (All IsTableWord) (sym names_are) form.words))))

-- what is known of the same words
pub all_of : (P : Word → Type 0) (some same : List Word) (r : Bool) → some ≡ same → (IsTrue r ↔ All P some) → IsTrue r ↔ All P same
all_of P some same r are known = ((λ e. subst (All P) are (known.0 e)), (λ all. known.1 (subst (All P) (sym are) all)))
