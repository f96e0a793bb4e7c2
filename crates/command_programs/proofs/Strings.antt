-- The names that a report shows are those of the program of a text: identifiers, so UTF-8.
use Rattle.std.proofs.Common.{◌≡◌, ◌∙◌, ◌<◌, ℕ, zero, suc, true, ◌&&◌, ◌||◌, ◌⊎◌, inl, inr, List, [], ◌∷◌, Option, Some, None, nat_eq, sym, ap, subst, arith, eqb-true}
use Rattle.std.specs.Prelude.{All, IsUtf8, nat_le, slice_get}
use Rattle.std.specs.List.{list_all}
use Rattle.std.proofs.lemmas.Bool.{leb-true, and_parts, or_cases}
use Rattle.std.proofs.lemmas.List.Elements.{All-nil, All-cons, All-head, All-tail, All-map, All-weaker}
use Rattle.std.proofs.lemmas.Str.{IsUtf8-from_ascii, IsUtf8-nil}
use Rattle.std.proofs.lemmas.Str.Ascii.{IsAscii-from_all}
use Rattle.base.proofs.Lists.{all_of}
use Rattle.syntax.specs.Spellings.{is_letter, is_digit, is_word, is_identifier}
use Rattle.syntax_tree.specs.Placed.{Prog, plain}
use Rattle.syntax_tree.specs.declared.place.Place.{Place}
use Rattle.syntax_tree.specs.Plain.{Monitor, Process, Program}
use Rattle.source_semantics.specs.Names.{processes, monitors}
use Rattle.image.specs.Named.{NamedImage}
use Rattle.built_image.specs.Named.{names_of}
use Rattle.sched_table.specs.Json.{AreStrings}
use Rattle.command_due.specs.Source.{IsWritten, IsTimelyText}
use Rattle.compile.specs.Compile.{IsLateWith}
use Rattle.compile.specs.declared.built.LateProgram.{LateProgram}
use Rattle.replay_law.specs.Words.{IsIdentifier, MonitorIsNamed, NamesAreIdentifiers, NamesOfTextsAreIdentifiers}

-- ---- identifiers

letter_low : (b : ℕ) → is_letter b ≡ true → b < 128
letter_low b is = by (or_cases (nat_le 65 b && nat_le b 90) (nat_le 97 b && nat_le b 122) is)
  where
    by : ((nat_le 65 b && nat_le b 90) ≡ true) ⊎ ((nat_le 97 b && nat_le b 122) ≡ true) → b < 128
    by (inl large) = let most = leb-true b 90 (and_parts (nat_le 65 b) (nat_le b 90) large).1 in omega arith
    by (inr small) = let most = leb-true b 122 (and_parts (nat_le 97 b) (nat_le b 122) small).1 in omega arith

digit_low : (b : ℕ) → is_digit b ≡ true → b < 128
digit_low b is = let most = leb-true b 57 (and_parts (nat_le 48 b) (nat_le b 57) is).1 in omega arith

word_low : (b : ℕ) → is_word b ≡ true → b < 128
word_low b is = by (or_cases (is_letter b || is_digit b) (nat_eq b 95) is)
  where
    by2 : (is_letter b ≡ true) ⊎ (is_digit b ≡ true) → b < 128
    by2 (inl letter) = letter_low b letter
    by2 (inr digit) = digit_low b digit

    by : ((is_letter b || is_digit b) ≡ true) ⊎ (nat_eq b 95 ≡ true) → b < 128
    by (inl one) = by2 (or_cases (is_letter b) (is_digit b) one)
    by (inr line) = let same = eqb-true b 95 line in omega arith

abbrev IsLow : ℕ → Type 0
IsLow b = b < 128

words_low : (bs : List ℕ) → list_all is_word bs ≡ true → All IsLow bs
words_low [] all = All-nil IsLow
words_low (b ∷ bs) all = let parts = and_parts (is_word b) (list_all is_word bs) all in All-cons IsLow b bs (word_low b parts.0) (words_low bs parts.1)

identifier_low : (bs : List ℕ) → is_identifier bs ≡ true → All IsLow bs
identifier_low [] is = All-nil IsLow
identifier_low (b ∷ bs) is = let parts = and_parts (is_letter b) (list_all is_word bs) is in All-cons IsLow b bs (letter_low b parts.0) (words_low bs parts.1)

utf8 : (name : List ℕ) → IsIdentifier name → IsUtf8 name
utf8 name is = IsUtf8-from_ascii name (IsAscii-from_all name (identifier_low name is.0))

-- ---- the program of a text

named_strings : (g : Program) → NamesAreIdentifiers g → AreStrings (names_of g) g.name
named_strings g is = record {
  of_program = utf8 g.name is.of_program;
  of_processes = All-map IsUtf8 (λ (p : Process). p.name) (processes g)
      (All-weaker (λ (p : Process). IsIdentifier p.name) (λ (p : Process). IsUtf8 p.name) (λ p one. utf8 p.name one) (processes g) is.of_processes);
  of_monitors = All-map IsUtf8 (λ (m : Monitor). m.name) (monitors g)
      (All-weaker MonitorIsNamed (λ (m : Monitor). IsUtf8 m.name) (λ m one. utf8 m.name one.name) (monitors g) is.of_monitors);
}

module _ (law : NamesOfTextsAreIdentifiers) where
  written_strings : (text : List ℕ) (g : Prog Place) → IsWritten text g → AreStrings (names_of (plain g)) (plain g).name
  written_strings text g w = named_strings (plain g) (law text g w.program.tree)

  pub timely_strings : (over : ℕ) (text : List ℕ) (n : NamedImage) → IsTimelyText over text n → AreStrings n.names n.program
  timely_strings over text n is =
      subst (λ program. AreStrings n.names program) (sym is.built.program)
      (subst (λ names. AreStrings names (plain is.tree).name) (sym is.built.names) (written_strings text is.tree is.written))

  abbrev or_nil : Option (List ℕ) → List ℕ
  or_nil None = []
  or_nil (Some name) = name

  at_strings : (names : List (List ℕ)) (k : ℕ) → All IsUtf8 names → IsUtf8 (or_nil (slice_get names k))
  at_strings [] k all = IsUtf8-nil
  at_strings (name ∷ names) zero all = All-head IsUtf8 name names all
  at_strings (name ∷ names) (suc k) all = at_strings names k (All-tail IsUtf8 name names all)

  -- what is known of a late program is its report in every style: so in those that show one name
  pub late_strings : (over : ℕ) (text : List ℕ) (l : LateProgram) → IsLateWith over text l → AreStrings l.names l.program
  late_strings over text l is = record {
    of_program = let one = is.late (λ names program table. program) in subst IsUtf8 (sym one.shown) (written_strings text one.tree one.written).of_program;
    of_processes = all_of IsUtf8 l.names.processes
        (λ k name at. let one = is.late (λ names program table. or_nil (slice_get names.processes k)) in
        subst IsUtf8 (sym one.shown ∙ ap or_nil at) (at_strings (names_of (plain one.tree)).processes k (written_strings text one.tree one.written).of_processes));
    of_monitors = all_of IsUtf8 l.names.monitors
        (λ k name at. let one = is.late (λ names program table. or_nil (slice_get names.monitors k)) in
        subst IsUtf8 (sym one.shown ∙ ap or_nil at) (at_strings (names_of (plain one.tree)).monitors k (written_strings text one.tree one.written).of_monitors));
  }
