-- Lines that are read in one pass.
use Rattle.std.proofs.Common.{◌≡◌, ◌≢◌, Bool, true, false, cond, not, ◌&&◌, ℕ, ℤ, ◌+◌, ◌-◌, ◌*◌, ◌^◌, ◌<◌, ◌≤◌, suc, List, [], ◌∷◌, ◌++◌, length, take, drop, get_or, decimal, refl, ap, sym, subst, ◌∙◌, arith, append_assoc, take_all, length-drop}
use Rattle.std.specs.Prelude.{◌==◌}
use Rattle.std.specs.Fmt.{signed_decimal}
use Rattle.std.specs.Int.{IsInRange}
use Rattle.std.proofs.lemmas.List.{get_or-take, take_more, take-append-drop, length-take-le}
use Rattle.std.proofs.Math.Seq.{drop-cons}
use Rattle.text_fields.specs.Fields.{Lacks, IsWord, Is32}
use Rattle.text_fields.proofs.Digits.{with_digit}
use Rattle.text_fields.proofs.Numerals.{read_on, numeral_is}
use Rattle.script.specs.Saying.{set, Begins}
use Rattle.script.specs.Reading.{behind, is_in_word}
use Rattle.std.specs.List.{prefix_len}

read_more : (n : ℕ) (digits : List ℕ) (digit : ℕ) → read_on n (digits ++ digit ∷ []) ≡ with_digit (read_on n digits) digit
read_more n [] digit = refl
read_more n (d ∷ ds) digit = read_more (with_digit n d) ds digit

-- one more digit is read
pub read_next : (bytes : List ℕ) (at number digit : ℕ) → at < length bytes → digit ≡ get_or bytes at 0 - 48 → read_on 0 (take at bytes) ≡ number → read_on 0 (take (at + 1) bytes) ≡ 10 * number + digit
read_next bytes at number digit below is read =
    ap (read_on 0) (take_more bytes at 0 below) ∙ read_more 0 (take at bytes) (get_or bytes at 0)
    ∙ ap (λ n. with_digit n (get_or bytes at 0)) read ∙ ap (λ d. 10 * number + d) (sym is)

same_at : (k at : ℕ) → (k == at) ≡ true → k ≡ at
same_at k at e = grind arith

other_at : (k at : ℕ) → (k == at) ≡ false → k ≢ at
other_at k at e = grind arith

-- what holds below a place and there holds up to it
pub up_to : (P : ℕ → Type 0) (at : ℕ) → ((k : ℕ) → k < at → P k) → P at → (k : ℕ) → k < at + 1 → P k
up_to P at all here k below = go (k == at) refl
  where
    go : (t : Bool) → (k == at) ≡ t → P k
    go true e = subst P (sym (same_at k at e)) here
    go false e = let n = other_at k at e in all k (omega (arith, n, below))

-- digits that spell a number, and what stands behind them
pub number_front : (bytes : List ℕ) (at number stop : ℕ) → at < length bytes → stop ≡ get_or bytes at 0 → ((k : ℕ) → k < at → IsInRange 48 57 (get_or bytes k 0)) → read_on 0 (take at bytes) ≡ number → 0 < at → (get_or bytes 0 0 ≡ 48 → at ≡ 1) → number < 2 ^ 64
    → bytes ≡ decimal number ++ stop ∷ take (length bytes - (at + 1)) (drop (at + 1) bytes)
number_front bytes at number stop below here digits read some lead small =
    let len : length (take at bytes) ≡ at = length-take-le at bytes (omega arith) in
    let on : suc at ≡ at + 1 = omega arith in
    let is : take at bytes ≡ decimal number = numeral_is (take at bytes) number (λ i within. subst (IsInRange 48 57) (sym (get_or-take at bytes i 0 (omega (arith, len, within)))) (digits i (omega (arith, len, within)))) read (omega (arith, len, some)) (λ zero. len ∙ lead (sym (get_or-take at bytes 0 0 some) ∙ zero)) small in
    let rest : take (length bytes - (at + 1)) (drop (at + 1) bytes) ≡ drop (at + 1) bytes = take_all (length bytes - (at + 1)) (drop (at + 1) bytes) (simp length-drop (omega arith)) in
    sym (take-append-drop at bytes)
    ∙ ap (λ t. take at bytes ++ t) (drop-cons bytes at 0 below ∙ ap (λ k. get_or bytes at 0 ∷ drop k bytes) on)
    ∙ ap (λ b. take at bytes ++ b ∷ drop (at + 1) bytes) (sym here)
    ∙ ap (λ t. take at bytes ++ stop ∷ t) (sym rest)
    ∙ ap (λ w. w ++ stop ∷ take (length bytes - (at + 1)) (drop (at + 1) bytes)) is

no_space : (b : ℕ) → is_in_word b ≡ true → b ≢ 32
no_space b e = grind arith

no_feed : (b : ℕ) → is_in_word b ≡ true → b ≢ 10
no_feed b e = grind arith

lacks_at : (stop b : ℕ) (bytes : List ℕ) (m : ℕ) → ((b : ℕ) → is_in_word b ≡ true → b ≢ stop) → (t : Bool) → is_in_word b ≡ t → Lacks stop (take m bytes) → Lacks stop (take (cond t (1 + m) 0) (b ∷ bytes))
lacks_at stop b bytes m other true e rest = let s : suc m ≡ 1 + m = omega arith in subst (λ k. Lacks stop (take k (b ∷ bytes))) s (other b e, rest)
lacks_at stop b bytes m other false e rest = tt

-- the bytes up to the first space or LF have none
front_lacks : (stop : ℕ) → ((b : ℕ) → is_in_word b ≡ true → b ≢ stop) → (bytes : List ℕ) → Lacks stop (take (prefix_len is_in_word bytes) bytes)
front_lacks stop other [] = tt
front_lacks stop other (b ∷ bytes) = lacks_at stop b bytes (prefix_len is_in_word bytes) other (is_in_word b) refl (front_lacks stop other bytes)

pub word_front : (bytes : List ℕ) (n : ℕ) → n ≡ prefix_len is_in_word bytes → 0 < n → n ≤ length bytes → IsWord (take n bytes)
word_front bytes n is some within = record {
  some = let len = length-take-le n bytes within in omega (arith, len);
  no_space = subst (λ k. Lacks 32 (take k bytes)) (sym is) (front_lacks 32 no_space bytes);
  no_line_feed = subst (λ k. Lacks 10 (take k bytes)) (sym is) (front_lacks 10 no_feed bytes);
}

-- a line that sets a device, by its parts
pub set_begins : (bytes timed named valued rest dev : List ℕ) (tick : ℕ) (value : ℤ) → tick < 1000000000 → IsWord dev → Is32 value → bytes ≡ decimal tick ++ 32 ∷ timed → timed ≡ 115 ∷ 101 ∷ 116 ∷ 32 ∷ named → named ≡ dev ++ 32 ∷ valued → valued ≡ signed_decimal value ++ 10 ∷ rest → Begins bytes (set tick dev value) rest
set_begins bytes timed named valued rest dev tick value small word is32 one two three four = record {
  form = (small, word, is32);
  text =
      one
      ∙ ap (λ t. decimal tick ++ 32 ∷ t) (two ∙ ap (λ t. 115 ∷ 101 ∷ 116 ∷ 32 ∷ t) (three ∙ ap (λ t. dev ++ 32 ∷ t) four ∙ sym (append_assoc dev (32 ∷ signed_decimal value) (10 ∷ rest))))
      ∙ sym (append_assoc (decimal tick) (32 ∷ behind (set tick dev value)) (10 ∷ rest));
}
