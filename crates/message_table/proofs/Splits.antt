-- The words of a line, one after another.
use Rattle.std.proofs.Common.{◌≡◌, ◌≢◌, ◌+◌, ◌-◌, ◌<◌, ◌≤◌, ◌==◌, ℕ, List, [], ◌∷◌, ◌++◌, All, false, length, take, drop, get_or, refl, ap, sym, subst, ◌∙◌, arith, append_assoc, length-drop, take_all}
use Rattle.std.proofs.lemmas.Bool.Decides.{nat_tests}
use Rattle.std.proofs.lemmas.List.{drop-drop, drop_more, get_or-drop, length-take-le, take_more, take-append-drop}
use Rattle.std.proofs.lemmas.List.Elements.{All-push}
use Rattle.std.proofs.lemmas.List.Splits.{slice_split_at, slice_split_none}
use Rattle.std.proofs.Math.Numerals.{add-one}
use Rattle.message_table.specs.Marks.{Mark, line_marks, line_wanted, mark, marks_from, marks_to, wanted_behind}
use Rattle.message_text.specs.Lines.{words}
use Rattle.message_table.specs.Parts.{at_first, behind, role_of}
use Rattle.message_table.specs.declared.part.Wanted.{Wanted}
use Rattle.message_text.specs.Shown.{line}

-- no blank
abbrev pub IsWord : List ℕ → Type 0
IsWord bytes = All (λ b. (b == 32) ≡ false) bytes

-- the first word ends before the first blank
cut : (rest : List ℕ) (i : ℕ) → i < length rest → get_or rest i 0 ≡ 32 → IsWord (take i rest) → words rest ≡ take i rest ∷ words (drop (i + 1) rest)
cut rest i below is word =
    let parts : rest ≡ take i rest ++ 32 ∷ drop (i + 1) rest =
    sym (take-append-drop i rest) ∙ ap (λ (t : List ℕ). take i rest ++ t) (drop_more rest i 0 below ∙ ap (λ (b : ℕ). b ∷ drop (i + 1) rest) is) in
    ap words parts ∙ slice_split_at (λ b. b == 32) (take i rest) 32 (drop (i + 1) rest) word refl

longer : (rest : List ℕ) (i : ℕ) → i < length rest → get_or rest i 0 ≢ 32 → IsWord (take i rest) → IsWord (take (i + 1) rest)
longer rest i below other word =
    let none : (get_or rest i 0 == 32) ≡ false = grind (arith, nat_tests) in
    subst IsWord (sym (take_more rest i 0 below)) (All-push (λ b. (b == 32) ≡ false) (take i rest) (get_or rest i 0) word none)

-- a byte behind the start of a word
at_byte : (bytes : List ℕ) (start at : ℕ) → start ≤ at → get_or (drop start bytes) (at - start) 0 ≡ get_or bytes at 0
at_byte bytes start at from =
    let e : start + (at - start) ≡ at = omega (arith, from) in
    get_or-drop start bytes (at - start) 0 ∙ ap (λ (n : ℕ). get_or bytes n 0) e

below_rest : (bytes : List ℕ) (start at : ℕ) → start ≤ at → at < length bytes → at - start < length (drop start bytes)
below_rest bytes start at from below = omega (arith, from, below, length-drop start bytes)

-- a word ends at a blank
pub word_ends : (bytes : List ℕ) (start at : ℕ) → start ≤ at → at < length bytes → get_or bytes at 0 ≡ 32 → IsWord (take (at - start) (drop start bytes))
    → words (drop start bytes) ≡ take (at - start) (drop start bytes) ∷ words (drop (at + 1) bytes)
word_ends bytes start at from below is word =
    let e : start + (at - start + 1) ≡ at + 1 = omega (arith, from) in
    cut (drop start bytes) (at - start) (below_rest bytes start at from below) (at_byte bytes start at from ∙ is) word
    ∙ ap (λ (t : List ℕ). take (at - start) (drop start bytes) ∷ words t) (drop-drop (at - start + 1) start bytes ∙ ap (λ (n : ℕ). drop n bytes) e)

-- a word goes on at another byte
pub word_goes_on : (bytes : List ℕ) (start at : ℕ) → start ≤ at → at < length bytes → get_or bytes at 0 ≢ 32 → IsWord (take (at - start) (drop start bytes))
    → IsWord (take (at + 1 - start) (drop start bytes))
word_goes_on bytes start at from below other word =
    let e : at - start + 1 ≡ at + 1 - start = omega (arith, from) in
    let same : get_or (drop start bytes) (at - start) 0 ≡ get_or bytes at 0 = at_byte bytes start at from in
    subst (λ (n : ℕ). IsWord (take n (drop start bytes))) e
    (longer (drop start bytes) (at - start) (below_rest bytes start at from below) (λ is. other (sym same ∙ is)) word)

-- no byte of a word is read yet
pub no_word : (bytes : List ℕ) (at : ℕ) → IsWord (take (at + 1 - (at + 1)) (drop (at + 1) bytes))
no_word bytes at =
    let e : 0 ≡ at + 1 - (at + 1) = omega arith in
    subst (λ (n : ℕ). IsWord (take n (drop (at + 1) bytes))) e (λ k d below. absurd (omega (arith, below)))

-- the last word ends with the line
pub word_last : (bytes : List ℕ) (start at : ℕ) → start ≤ at → length bytes ≤ at → IsWord (take (at - start) (drop start bytes))
    → words (drop start bytes) ≡ take (length bytes - start) (drop start bytes) ∷ []
word_last bytes start at from end word =
    let rest : List ℕ = drop start bytes in
    let whole : take (length bytes - start) rest ≡ rest = take_all (length bytes - start) rest (omega (arith, length-drop start bytes)) in
    slice_split_none (λ b. b == 32) rest (subst IsWord (take_all (at - start) rest (omega (arith, from, end, length-drop start bytes))) word)
    ∙ ap (λ (last : List ℕ). last ∷ []) (sym whole)

-- how many bytes a word has
pub word_size : (bytes : List ℕ) (start at : ℕ) → start ≤ at → at ≤ length bytes → length (take (at - start) (drop start bytes)) ≡ at - start
word_size bytes start at from within = length-take-le (at - start) (drop start bytes) (omega (arith, from, within, length-drop start bytes))

-- one more word is put
pub mark_put : (old new : List Mark) (number column next : ℕ) (wanted : Wanted) (word : List ℕ) (more : List (List ℕ)) (whole : List Mark)
    → new ≡ old ++ marks_from number column wanted (word ∷ []) → next ≡ column + length word + 1
    → old ++ marks_from number column wanted (word ∷ more) ≡ whole
    → new ++ marks_from number next (wanted_behind wanted (word ∷ [])) more ≡ whole
mark_put old new number column next wanted word more whole put next_is so_far =
    let rest = marks_from number (column + length word + 1) (behind (role_of wanted word)) more in
    ap (λ (n : ℕ). new ++ marks_from number n (behind (role_of wanted word)) more) next_is
    ∙ ap (λ (t : List Mark). t ++ rest) put
    ∙ append_assoc old (mark number column word (role_of wanted word) ∷ []) rest
    ∙ so_far

-- a line is read as far as a byte: the words that ended are put behind the old ones, and another
-- one begins at start
pub record IsRead (bytes : List ℕ) (number : ℕ) (old : List Mark) (start at : ℕ) (marks : List Mark) (wanted : Wanted) : Type 0 where
  pub begun : start ≤ at
  pub word : IsWord (take (at - start) (drop start bytes))
  pub marks_are : marks ++ marks_from number (start + 1) wanted (words (drop start bytes)) ≡ old ++ line_marks bytes number
  pub wanted_is : wanted_behind wanted (words (drop start bytes)) ≡ line_wanted bytes number

pub read_first : (bytes : List ℕ) (number : ℕ) (old : List Mark) → IsRead bytes number old 0 0 old (at_first number)
read_first bytes number old = record {
  begun = omega arith;
  word = λ k d below. absurd (omega (arith, below));
  marks_are = refl;
  wanted_is = refl;
}

-- a blank ends a word
pub read_word : (bytes : List ℕ) (number : ℕ) (old : List Mark) (start at next : ℕ) (marks new : List Mark) (wanted behind_it : Wanted) → IsRead bytes number old start at marks wanted
    → at < length bytes → get_or bytes at 0 ≡ 32 → next ≡ at + 1
    → new ≡ marks ++ marks_from number (start + 1) wanted (take (at - start) (drop start bytes) ∷ []) → behind_it ≡ wanted_behind wanted (take (at - start) (drop start bytes) ∷ [])
    → IsRead bytes number old next (at + 1) new behind_it
read_word bytes number old start at next marks new wanted behind_it read below is next_is put behind_is =
    let word : List ℕ = take (at - start) (drop start bytes) in
    let more : List (List ℕ) = words (drop (at + 1) bytes) in
    let cut_is : words (drop start bytes) ≡ word ∷ more = word_ends bytes start at read.begun below is read.word in
    let column : at + 1 + 1 ≡ start + 1 + length word + 1 = omega (arith, read.begun, word_size bytes start at read.begun (omega (arith, below))) in
    let marks_are : new ++ marks_from number (at + 1 + 1) behind_it more ≡ old ++ line_marks bytes number =
    ap (λ (w : Wanted). new ++ marks_from number (at + 1 + 1) w more) behind_is
    ∙ mark_put marks new number (start + 1) (at + 1 + 1) wanted word more (old ++ line_marks bytes number) put column
    (ap (λ (ws : List (List ℕ)). marks ++ marks_from number (start + 1) wanted ws) (sym cut_is) ∙ read.marks_are) in
    let wanted_is : wanted_behind behind_it more ≡ line_wanted bytes number =
    ap (λ (w : Wanted). wanted_behind w more) behind_is ∙ ap (wanted_behind wanted) (sym cut_is) ∙ read.wanted_is in
    subst (λ (n : ℕ). IsRead bytes number old n (at + 1) new behind_it) (sym next_is)
    (record { begun = omega arith; word = no_word bytes at; marks_are = marks_are; wanted_is = wanted_is })

-- another byte goes on with it
pub read_byte : (bytes : List ℕ) (number : ℕ) (old : List Mark) (start at next : ℕ) (marks new : List Mark) (wanted behind_it : Wanted) → IsRead bytes number old start at marks wanted
    → at < length bytes → get_or bytes at 0 ≢ 32 → next ≡ start → new ≡ marks → behind_it ≡ wanted → IsRead bytes number old next (at + 1) new behind_it
read_byte bytes number old start at next marks new wanted behind_it read below other next_is new_is behind_is =
    subst (λ (n : ℕ). IsRead bytes number old n (at + 1) new behind_it) (sym next_is)
    (subst (λ (ms : List Mark). IsRead bytes number old start (at + 1) ms behind_it) (sym new_is)
    (subst (λ (w : Wanted). IsRead bytes number old start (at + 1) marks w) (sym behind_is)
    (record { begun = omega (arith, read.begun); word = word_goes_on bytes start at read.begun below other read.word; marks_are = read.marks_are; wanted_is = read.wanted_is })))

-- the line is read, but for its last word
pub read_marks : (bytes : List ℕ) (number : ℕ) (old : List Mark) (start at : ℕ) (marks : List Mark) (wanted : Wanted) → IsRead bytes number old start at marks wanted → length bytes ≤ at
    → marks ++ marks_from number (start + 1) wanted (take (length bytes - start) (drop start bytes) ∷ []) ≡ old ++ line_marks bytes number
read_marks bytes number old start at marks wanted read end =
    ap (λ (ws : List (List ℕ)). marks ++ marks_from number (start + 1) wanted ws) (sym (word_last bytes start at read.begun end read.word)) ∙ read.marks_are

pub read_wanted : (bytes : List ℕ) (number : ℕ) (old : List Mark) (start at : ℕ) (marks : List Mark) (wanted : Wanted) → IsRead bytes number old start at marks wanted → length bytes ≤ at
    → wanted_behind wanted (take (length bytes - start) (drop start bytes) ∷ []) ≡ line_wanted bytes number
read_wanted bytes number old start at marks wanted read end =
    ap (wanted_behind wanted) (sym (word_last bytes start at read.begun end read.word)) ∙ read.wanted_is

-- one more line is read
pub marks_next : (text : List ℕ) (count : ℕ) (old new : List Mark) (bytes : List ℕ) → old ≡ marks_to text count → bytes ≡ line text (count + 1) → new ≡ old ++ line_marks bytes (count + 1)
    → new ≡ marks_to text (count + 1)
unfolding marks_to
marks_next text count old new bytes old_is line_is put =
    let step : marks_to text count ++ line_marks (line text (count + 1)) (count + 1) ≡ marks_to text (count + 1) =
    subst (λ (n : ℕ). marks_to text count ++ line_marks (line text n) n ≡ marks_to text n) (sym (add-one count)) refl in
    put ∙ ap (λ (t : List Mark). t ++ line_marks bytes (count + 1)) old_is ∙ ap (λ (b : List ℕ). marks_to text count ++ line_marks b (count + 1)) line_is ∙ step
