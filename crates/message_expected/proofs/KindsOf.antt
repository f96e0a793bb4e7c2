-- The kind of a word, beside what reading asks of the word.
use Rattle.std.proofs.Common.{◌≡◌, ℕ, Bool, true, false, cond, refl}
use Rattle.std.specs.Prelude.{bytes_eq, codes}
use Rattle.syntax.specs.Words.{DEADLINE, Word, keyword, named, number, sign}
use Rattle.syntax_reading.specs.ExprReading.{is_named, is_numeral, same_word}
use Rattle.message_expected.specs.Automaton.{is_key, is_name, is_number, is_sign, kind_of_word}
use Rattle.message_expected.specs.Kinds.{same}
use Rattle.message_expected.specs.declared.kinds.Kind.TheVariants as of

pub key_same : (n : ℕ) (v : Word) → is_key n (kind_of_word v) ≡ same_word v (keyword n)
key_same n (named m) = by (bytes_eq m (codes "deadline"))
  where
    by : (b : Bool) → is_key n (cond b of.Deadline of.Name) ≡ false
    by true = refl
    by false = refl
key_same n (number m) = refl
key_same n (keyword m) = refl
key_same n (sign m) = refl

pub sign_same : (n : ℕ) (v : Word) → is_sign n (kind_of_word v) ≡ same_word v (sign n)
sign_same n (named m) = by (bytes_eq m (codes "deadline"))
  where
    by : (b : Bool) → is_sign n (cond b of.Deadline of.Name) ≡ false
    by true = refl
    by false = refl
sign_same n (number m) = refl
sign_same n (keyword m) = refl
sign_same n (sign m) = refl

pub name_same : (v : Word) → is_name (kind_of_word v) ≡ is_named v
name_same (named m) = by (bytes_eq m (codes "deadline"))
  where
    by : (b : Bool) → is_name (cond b of.Deadline of.Name) ≡ true
    by true = refl
    by false = refl
name_same (number m) = refl
name_same (keyword m) = refl
name_same (sign m) = refl

pub number_same : (v : Word) → is_number (kind_of_word v) ≡ is_numeral v
number_same (named m) = by (bytes_eq m (codes "deadline"))
  where
    by : (b : Bool) → is_number (cond b of.Deadline of.Name) ≡ false
    by true = refl
    by false = refl
number_same (number m) = refl
number_same (keyword m) = refl
number_same (sign m) = refl

pub deadline_same : (v : Word) → same (kind_of_word v) of.Deadline ≡ same_word v DEADLINE
deadline_same (named m) = by (bytes_eq m (codes "deadline"))
  where
    by : (b : Bool) → same (cond b of.Deadline of.Name) of.Deadline ≡ b
    by true = refl
    by false = refl
deadline_same (number m) = refl
deadline_same (keyword m) = refl
deadline_same (sign m) = refl
