-- What the bytes of a spelling are, and the longest spelling of each kind.
use Rattle.std.proofs.Common.{◌≡◌, ℕ, zero, suc, ◌+◌, ◌<◌, ◌≤◌, Bool, true, false, not, cond, ◌&&◌, ◌||◌, ◌⊎◌, inl, inr, List, [], ◌∷◌, length, take, Some, slice_get, Contains, nat_le, nat_eq, length-take-le, refl, ap, sym, ◌∙◌, subst, arith}
use Rattle.std.proofs.lemmas.Bool.{leb-true, or_cases, and_parts}
use Rattle.std.proofs.lemmas.List.Sums.{prefix_len-le-length}
use Rattle.std.proofs.lemmas.Option.{slice_get_within, get_or_from_slice_get}
use Rattle.std.specs.List.{list_all, prefix_len}
use Rattle.syntax.specs.Spellings.{signs, keywords, is_letter, is_digit, is_word, is_identifier, is_number, Spells}
use Rattle.syntax.specs.Tokens.{is_blank, is_percent, is_in_line, Begins, IsLongest}
use Rattle.syntax.specs.Faults.{BeginsNothing}
use Rattle.syntax.specs.Fronts.{is_other}
use Rattle.syntax.proofs.TableLemmas.{all_at}

-- ---- runs of bytes that pass a test

pub all_before : (p : ℕ → Bool) (xs : List ℕ) → list_all p (take (prefix_len p xs) xs) ≡ true
all_before p [] = refl
all_before p (x ∷ xs) = by_test (p x) refl (all_before p xs)
  where
    by_test : (b : Bool) → p x ≡ b → list_all p (take (prefix_len p xs) xs) ≡ true → list_all p (take (cond b (1 + prefix_len p xs) 0) (x ∷ xs)) ≡ true
    by_test true is more =
        let e : suc (prefix_len p xs) ≡ 1 + prefix_len p xs = omega arith in
        subst (λ n. list_all p (take n (x ∷ xs)) ≡ true) e (ap (λ b. b && list_all p (take (prefix_len p xs) xs)) is ∙ more)
    by_test false is more = refl

pub all_past : (p : ℕ → Bool) (xs : List ℕ) (k : ℕ) → prefix_len p xs < k → k ≤ length xs → list_all p (take k xs) ≡ false
all_past p [] k past within = absurd (omega arith)
all_past p (x ∷ xs) zero past within = absurd (omega arith)
all_past p (x ∷ xs) (suc k) past within = by_test (p x) refl (all_past p xs k)
  where
    by_test : (b : Bool) → p x ≡ b → (prefix_len p xs < k → k ≤ length xs → list_all p (take k xs) ≡ false) → (p x && list_all p (take k xs)) ≡ false
    by_test false is more = ap (λ b. b && list_all p (take k xs)) is
    by_test true is more =
        let low : 1 + prefix_len p xs < suc k = subst (λ b. cond b (1 + prefix_len p xs) 0 < suc k) is past in
        ap (λ b. b && list_all p (take k xs)) is ∙ more (omega arith) (omega arith)

-- a run that has its first byte
pub run_from : (p : ℕ → Bool) (b : ℕ) (bs : List ℕ) → p b ≡ true → prefix_len p (b ∷ bs) ≡ suc (prefix_len p bs)
run_from p b bs is = let e : 1 + prefix_len p bs ≡ suc (prefix_len p bs) = omega arith in ap (λ t. cond t (1 + prefix_len p bs) 0) is ∙ e

-- ---- the first byte of a spelling

-- neither a letter, a digit, a blank nor a `%` is the first byte
abbrev pub is_plain : List ℕ → Bool
is_plain [] = false
is_plain (b ∷ bs) = not (is_letter b || is_digit b || is_blank b || is_percent b)

abbrev pub is_short : List ℕ → Bool
is_short w = nat_le (length w) 2

pub listed : (p : List ℕ → Bool) (ws : List (List ℕ)) (w : List ℕ) → list_all p ws ≡ true → Contains ws w → p w ≡ true
listed p ws w all (k, below, is) = subst (λ v. p v ≡ true) is (all_at p ws k w all below)

pub Contains-from : (ws : List (List ℕ)) (at : ℕ) (w : List ℕ) → slice_get ws at ≡ Some w → Contains ws w
Contains-from ws at w is = (at, slice_get_within ws at w is, get_or_from_slice_get ws at w w is)

pub sign_plain : (w : List ℕ) → Contains signs w → is_plain w ≡ true
sign_plain w is = listed is_plain signs w refl is

pub sign_short : (w : List ℕ) → Contains signs w → length w ≤ 2
sign_short w is = leb-true (length w) 2 (listed is_short signs w refl is)

pub sign_in_line : (w : List ℕ) → Contains signs w → list_all is_in_line w ≡ true
sign_in_line w is = listed (λ v. list_all is_in_line v) signs w refl is

pub keyword_identifier : (w : List ℕ) → Contains keywords w → is_identifier w ≡ true
keyword_identifier w is = listed is_identifier keywords w refl is

abbrev ClearOf : Bool → Bool → Bool → Bool → Type 0
ClearOf l d s p = (l ≡ false) × (d ≡ false) × (s ≡ false) × (p ≡ false)

clear : (l d s p : Bool) → not (l || d || s || p) ≡ true → ClearOf l d s p
clear false false false false e = (refl, refl, refl, refl)
clear true d s p e = cc
clear false true s p e = cc
clear false false true p e = cc
clear false false false true e = cc

-- the first byte of a sign
pub sign_begins : (b : ℕ) (bs : List ℕ) → Contains signs (b ∷ bs) → (is_letter b ≡ false) × (is_digit b ≡ false) × (is_blank b ≡ false) × (is_percent b ≡ false)
sign_begins b bs is = clear (is_letter b) (is_digit b) (is_blank b) (is_percent b) (sign_plain (b ∷ bs) is)

pub letter_no_digit : (b : ℕ) → is_letter b ≡ true → is_digit b ≡ true → ⊥
letter_no_digit b letter digit = by (or_cases (nat_le 65 b && nat_le b 90) (nat_le 97 b && nat_le b 122) letter)
  where
    high : b ≤ 57
    high = leb-true b 57 (and_parts (nat_le 48 b) (nat_le b 57) digit).1

    by : ((nat_le 65 b && nat_le b 90) ≡ true) ⊎ ((nat_le 97 b && nat_le b 122) ≡ true) → ⊥
    by (inl upper) = let low = leb-true 65 b (and_parts (nat_le 65 b) (nat_le b 90) upper).0 in omega (arith, low, high)
    by (inr lower) = let low = leb-true 97 b (and_parts (nat_le 97 b) (nat_le b 122) lower).0 in omega (arith, low, high)

pub nothing_spells_nothing : Spells [] → ⊥
nothing_spells_nothing (inl is) = cc
nothing_spells_nothing (inr (inl is)) = cc
nothing_spells_nothing (inr (inr is)) = let e = sign_plain [] is in cc

-- a spelling that begins with a letter is an identifier
pub from_letter : (b : ℕ) (bs : List ℕ) → is_letter b ≡ true → Spells (b ∷ bs) → list_all is_word bs ≡ true
from_letter b bs letter (inl is) = (and_parts (is_letter b) (list_all is_word bs) is).1
from_letter b bs letter (inr (inl is)) = absurd (letter_no_digit b letter (and_parts (is_digit b) (list_all is_digit bs) is).0)
from_letter b bs letter (inr (inr is)) = let none = (sign_begins b bs is).0 in cc (letter, none)

-- one that begins with a digit is a number
pub from_digit : (b : ℕ) (bs : List ℕ) → is_digit b ≡ true → Spells (b ∷ bs) → list_all is_digit bs ≡ true
from_digit b bs digit (inl is) = absurd (letter_no_digit b (and_parts (is_letter b) (list_all is_word bs) is).0 digit)
from_digit b bs digit (inr (inl is)) = (and_parts (is_digit b) (list_all is_digit bs) is).1
from_digit b bs digit (inr (inr is)) = let none = (sign_begins b bs is).1 in cc (digit, none)

-- one that begins with neither is a sign
pub from_other : (b : ℕ) (bs : List ℕ) → is_letter b ≡ false → is_digit b ≡ false → Spells (b ∷ bs) → Contains signs (b ∷ bs)
from_other b bs no_letter no_digit (inl is) = let letter = (and_parts (is_letter b) (list_all is_word bs) is).0 in cc (letter, no_letter)
from_other b bs no_letter no_digit (inr (inl is)) = let digit = (and_parts (is_digit b) (list_all is_digit bs) is).0 in cc (digit, no_digit)
from_other b bs no_letter no_digit (inr (inr is)) = is

-- ---- the longest spelling at the front

letter_word : (b : ℕ) → is_letter b ≡ true → is_word b ≡ true
letter_word b letter = ap (λ t. t || is_digit b || nat_eq b 95) letter

pub record LongestRun (spelled : List ℕ → Bool) (bytes : List ℕ) (n : ℕ) : Type 0 where
  pub longest : IsLongest bytes n
  pub is : spelled (take n bytes) ≡ true

pub longest_word : (bytes : List ℕ) → Begins is_letter bytes → LongestRun is_identifier bytes (prefix_len is_word bytes)
longest_word [] letter = absurd letter
longest_word (b ∷ bs) letter = subst (LongestRun is_identifier (b ∷ bs)) (sym (run_from is_word b bs (letter_word b letter))) found
  where
    spelled : is_identifier (take (suc (prefix_len is_word bs)) (b ∷ bs)) ≡ true
    spelled = ap (λ t. t && list_all is_word (take (prefix_len is_word bs) bs)) letter ∙ all_before is_word bs

    past : (m : ℕ) → suc (prefix_len is_word bs) < m → m ≤ length (b ∷ bs) → Spells (take m (b ∷ bs)) → ⊥
    past zero more within spells = omega arith
    past (suc m) more within spells =
        let all = from_letter b (take m bs) letter spells in let none = all_past is_word bs m (omega arith) (omega arith) in cc (all, none)

    found : LongestRun is_identifier (b ∷ bs) (suc (prefix_len is_word bs))
    found = record { longest = record { within = omega (arith, prefix_len-le-length is_word bs); spells = inl spelled; longest = past }; is = spelled }

pub longest_number : (bytes : List ℕ) → Begins is_digit bytes → LongestRun is_number bytes (prefix_len is_digit bytes)
longest_number [] digit = absurd digit
longest_number (b ∷ bs) digit = subst (LongestRun is_number (b ∷ bs)) (sym (run_from is_digit b bs digit)) found
  where
    spelled : is_number (take (suc (prefix_len is_digit bs)) (b ∷ bs)) ≡ true
    spelled = ap (λ t. t && list_all is_digit (take (prefix_len is_digit bs) bs)) digit ∙ all_before is_digit bs

    past : (m : ℕ) → suc (prefix_len is_digit bs) < m → m ≤ length (b ∷ bs) → Spells (take m (b ∷ bs)) → ⊥
    past zero more within spells = omega arith
    past (suc m) more within spells =
        let all = from_digit b (take m bs) digit spells in let none = all_past is_digit bs m (omega arith) (omega arith) in cc (all, none)

    found : LongestRun is_number (b ∷ bs) (suc (prefix_len is_digit bs))
    found = record { longest = record { within = omega (arith, prefix_len-le-length is_digit bs); spells = inr (inl spelled); longest = past }; is = spelled }

-- ---- signs

-- no more than two bytes that begin with no letter and no digit spell anything
no_longer : (b : ℕ) (bs : List ℕ) (m : ℕ) → is_letter b ≡ false → is_digit b ≡ false → 2 < m → m ≤ length (b ∷ bs) → Spells (take m (b ∷ bs)) → ⊥
no_longer b bs zero letter digit more within spells = omega arith
no_longer b bs (suc m) letter digit more within spells =
    let short = sign_short (b ∷ take m bs) (from_other b (take m bs) letter digit spells) in omega (arith, short, length-take-le m bs)

abbrev pub NoPair : List ℕ → Type 0
NoPair bytes = 2 ≤ length bytes → ¬ Contains signs (take 2 bytes)

abbrev pub NoSingle : List ℕ → Type 0
NoSingle bytes = 1 ≤ length bytes → ¬ Contains signs (take 1 bytes)

pub longest_two : (bytes : List ℕ) → Begins is_other bytes → 2 ≤ length bytes → Contains signs (take 2 bytes) → IsLongest bytes 2
longest_two [] other two is = absurd other
longest_two (b ∷ bs) other two is = record { within = two; spells = inr (inr is); longest = λ m more within spells. no_longer b bs m head.0 head.1 more within spells }
  where
    head : ClearOf (is_letter b) (is_digit b) (is_blank b) (is_percent b)
    head = clear (is_letter b) (is_digit b) (is_blank b) (is_percent b) other

pub longest_one : (bytes : List ℕ) → Begins is_other bytes → NoPair bytes → Contains signs (take 1 bytes) → IsLongest bytes 1
longest_one [] other no_pair is = absurd other
longest_one (b ∷ bs) other no_pair is = record { within = omega arith; spells = inr (inr is); longest = λ m more within spells. past bs m no_pair more within spells }
  where
    head : ClearOf (is_letter b) (is_digit b) (is_blank b) (is_percent b)
    head = clear (is_letter b) (is_digit b) (is_blank b) (is_percent b) other

    past : (bs : List ℕ) (m : ℕ) → NoPair (b ∷ bs) → 1 < m → m ≤ length (b ∷ bs) → Spells (take m (b ∷ bs)) → ⊥
    past bs zero no_pair more within spells = omega arith
    past bs (suc zero) no_pair more within spells = omega arith
    past bs (suc (suc zero)) no_pair more within spells = no_pair within (from_other b (take 1 bs) head.0 head.1 spells)
    past bs (suc (suc (suc m))) no_pair more within spells = no_longer b bs (suc (suc (suc m))) head.0 head.1 (omega arith) within spells

no_spelling : (b : ℕ) (bs : List ℕ) → is_letter b ≡ false → is_digit b ≡ false → ¬ Contains signs (b ∷ []) → NoPair (b ∷ bs) → (n : ℕ) → ¬ Spells (take n (b ∷ bs))
no_spelling b bs letter digit single pair zero spells = nothing_spells_nothing spells
no_spelling b bs letter digit single pair (suc zero) spells = single (from_other b [] letter digit spells)
no_spelling b [] letter digit single pair (suc (suc n)) spells = single (from_other b [] letter digit spells)
no_spelling b (c ∷ cs) letter digit single pair (suc (suc zero)) spells = pair (omega arith) (from_other b (c ∷ []) letter digit spells)
no_spelling b (c ∷ []) letter digit single pair (suc (suc (suc n))) spells = pair (omega arith) (from_other b (c ∷ []) letter digit spells)
no_spelling b (c ∷ (d ∷ ds)) letter digit single pair (suc (suc (suc n))) spells =
    let short = sign_short (b ∷ (c ∷ (d ∷ take n ds))) (from_other b (c ∷ (d ∷ take n ds)) letter digit spells) in omega (arith, short)

pub begins_nothing : (bytes : List ℕ) → Begins is_other bytes → NoPair bytes → NoSingle bytes → BeginsNothing bytes
begins_nothing [] other pair single = absurd other
begins_nothing (b ∷ bs) other pair single = record {
  some = omega arith;
  no_blank = λ blank. let not_blank = head.2 in cc (blank, not_blank);
  no_comment = λ n comment. let not_percent = head.3 in let percent = comment.0 in cc (percent, not_percent);
  no_token = no_spelling b bs head.0 head.1 (single (omega arith)) pair;
}
  where
    head : ClearOf (is_letter b) (is_digit b) (is_blank b) (is_percent b)
    head = clear (is_letter b) (is_digit b) (is_blank b) (is_percent b) other
