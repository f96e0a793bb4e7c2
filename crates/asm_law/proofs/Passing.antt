-- Bytes that stand before the end of a line, and how they begin one.
use Rattle.std.proofs.Common.{◌≡◌, ◌≢◌, ◌+◌, ◌++◌, ◌&&◌, ◌==◌, ℕ, Bool, true, false, List, [], ◌∷◌, length, take, drop, refl, sym, ap, ◌∙◌, arith, length-append}
use Rattle.std.specs.Prelude.{cond, not, codes, nat_lt, nat_eq, if◌then◌else◌}
use Rattle.std.specs.List.{list_all, count_by}
use Rattle.std.specs.Cmp.Lexicographic.{pointwise}
use Rattle.std.proofs.lemmas.Bool.{eqb-true, le-ltb, and_parts}
use Rattle.std.proofs.lemmas.Cmp.{nat_list_eq_equiv}
use Rattle.std.proofs.lemmas.List.{take-append-drop}
use Rattle.std.proofs.lemmas.List.Sums.{sum_by-cons}
use Rattle.std.proofs.Math.Seq.{take-append_seam}
use Rattle.text_fields.specs.Fields.{Lacks}
use Rattle.image_reader.proofs.Words.{same_words}
use Rattle.asm_lines.specs.TreeForm.{cuts, longer}
use Rattle.text_fields.specs.Front.{Front, begins, moved, skip, end_read, line_start}
use Rattle.asm_law.proofs.Took.{Place, Start, Within, after_line, owners_here, ahead, Takes, Holds, went, failed, next, choice}

-- ---- lines

abbrev is_no_end : ℕ → Bool
is_no_end b = not (b == 10)

abbrev pub is_plain : List ℕ → Bool
is_plain bytes = list_all is_no_end bytes

pub plain_lacks : (bytes : List ℕ) → is_plain bytes ≡ true → Lacks 10 bytes
plain_lacks [] h = tt
plain_lacks (b ∷ bs) h =
    let p = and_parts (is_no_end b) (is_plain bs) h in
    ((λ same. no_end b same p.0), plain_lacks bs p.1)
  where
    no_end : (c : ℕ) → c ≡ 10 → is_no_end c ≡ true → ⊥
    no_end c same is = let e : is_no_end 10 ≡ true = ap is_no_end (sym same) ∙ is in cc

other_byte : (b : ℕ) → b ≢ 10 → (b == 10) ≡ false
other_byte b other = by (b == 10) refl where
  by : (t : Bool) → (b == 10) ≡ t → t ≡ false
  by true h = absurd (other (eqb-true b 10 h))
  by false h = refl

goes_past : (bytes rest : List ℕ) → Lacks 10 bytes → after_line (bytes ++ rest) ≡ after_line rest
goes_past [] rest lacks = refl
goes_past (b ∷ bs) rest lacks = rw (other_byte b lacks.0) (goes_past bs rest lacks.1)

-- a line, and the words after it
abbrev line : List ℕ → List ℕ
line [] = []
line (b ∷ bs) = if b == 10 then [] else b ∷ line bs

abbrev more : List ℕ → List (List ℕ)
more [] = []
more (b ∷ bs) = if b == 10 then cuts 10 bs else more bs

cut_is : (bytes : List ℕ) → cuts 10 bytes ≡ line bytes ∷ more bytes
cut_is [] = refl
cut_is (b ∷ bs) = by (b == 10) (cut_is bs) where
  by : (t : Bool) → cuts 10 bs ≡ line bs ∷ more bs → (if t then [] ∷ cuts 10 bs else longer b (cuts 10 bs)) ≡ (if t then [] else b ∷ line bs) ∷ (if t then cuts 10 bs else more bs)
  by true ih = refl
  by false ih = ap (longer b) ih

abbrev is_owner : List ℕ → Bool
is_owner words = begins (codes "process ") words

more_is : (bytes : List ℕ) → count_by is_owner (more bytes) ≡ owners_here (after_line bytes)
more_is [] = refl
more_is (b ∷ bs) = by (b == 10) (more_is bs) where
  by : (t : Bool) → count_by is_owner (more bs) ≡ owners_here (after_line bs) → count_by is_owner (if t then cuts 10 bs else more bs) ≡ owners_here (if t then bs else after_line bs)
  by true ih = refl
  by false ih = ih

front_line : (bytes rest : List ℕ) → Lacks 10 bytes → line (bytes ++ rest) ≡ bytes ++ line rest
front_line [] rest lacks = refl
front_line (b ∷ bs) rest lacks = rw (other_byte b lacks.0) (ap (λ (xs : List ℕ). b ∷ xs) (front_line bs rest lacks.1))

first_line : (bytes : List ℕ) → owners_here bytes ≡ cond (is_owner (line bytes)) 1 0 + owners_here (after_line bytes)
first_line bytes =
    ap (count_by is_owner) (cut_is bytes) ∙ sum_by-cons (λ (word : List ℕ). cond (is_owner word) 1 0) (line bytes) (more bytes)
    ∙ ap (λ n. cond (is_owner (line bytes)) 1 0 + n) (more_is bytes)

-- ---- what bytes are to the count of lines of processes

pub record Passes (p q : Place) (bytes : List ℕ) (k : ℕ) : Type 0 where
  pub passes : (rest : List ℕ) → ahead p (bytes ++ rest) ≡ k + ahead q rest

pub within : (bytes : List ℕ) → Lacks 10 bytes → Passes Within Within bytes 0
within bytes lacks = record {
  passes = λ rest. ap (λ (xs : List ℕ). owners_here xs) (goes_past bytes rest lacks) ∙ (let e : owners_here (after_line rest) ≡ 0 + owners_here (after_line rest) = omega arith in e);
}

pub inside : (label : List ℕ) → is_plain label ≡ true → Passes Within Within label 0
inside label plain = within label (plain_lacks label plain)

pub line_feed : Passes Within Start (codes "\n") 0
line_feed = record { passes = λ rest. (let e : owners_here rest ≡ 0 + owners_here rest = omega arith in e) }

opens : (label : List ℕ) (k : ℕ) → Lacks 10 label → ((more : List ℕ) → cond (is_owner (label ++ more)) 1 0 ≡ k) → Passes Start Within label k
opens label k lacks counts = record {
  passes = λ rest. first_line (label ++ rest) ∙ ap (λ (xs : List ℕ). cond (is_owner xs) 1 0 + owners_here (after_line (label ++ rest))) (front_line label rest lacks)
      ∙ ap (λ n. n + owners_here (after_line (label ++ rest))) (counts (line rest)) ∙ ap (λ (xs : List ℕ). k + owners_here xs) (goes_past label rest lacks);
}

begins_with : (word more : List ℕ) → begins word (word ++ more) ≡ true
begins_with word more =
    let long : nat_lt (length (word ++ more)) (length word) ≡ false = le-ltb (length (word ++ more)) (length word) (omega (arith, length-append word more)) in
    rw (long, take-append_seam word more) (nat_list_eq_equiv.refl word)

-- the line of a process
pub owner : Passes Start Within (codes "process ") 1
owner = opens (codes "process ") 1 (plain_lacks (codes "process ") refl) (λ more. ap (λ b. cond b 1 0) (begins_with (codes "process ") more))

-- another line, which begins with another letter
abbrev is_other_first : List ℕ → Bool
is_other_first [] = false
is_other_first (b ∷ bs) = not (nat_eq b 112)

abbrev pub opens_other : List ℕ → Bool
opens_other bytes = is_plain bytes && is_other_first bytes

no_owner : (label more : List ℕ) → is_other_first label ≡ true → is_owner (label ++ more) ≡ false
no_owner [] more h = cc
no_owner (b ∷ bs) more h = by (nat_eq b 112) (nat_lt (length (b ∷ (bs ++ more))) 8) h where
  by : (same short : Bool) → not same ≡ true → (if short then false else (same && pointwise nat_eq (take 7 (bs ++ more)) (codes "rocess "))) ≡ false
  by true short h = cc
  by false true h = refl
  by false false h = refl

pub other_line : (label : List ℕ) → opens_other label ≡ true → Passes Start Within label 0
other_line label h =
    let p = and_parts (is_plain label) (is_other_first label) h in
    opens label 0 (plain_lacks label p.0) (λ more. ap (λ b. cond b 1 0) (no_owner label more p.1))

-- ---- words that must stand there

begun : (word bytes : List ℕ) → begins word bytes ≡ true → bytes ≡ word ++ drop (length word) bytes
begun word bytes h = by (nat_lt (length bytes) (length word)) h where
  by : (short : Bool) → (if short then false else pointwise nat_eq (take (length word) bytes) word) ≡ true → bytes ≡ word ++ drop (length word) bytes
  by true h = cc
  by false h = sym (take-append-drop (length word) bytes) ∙ ap (λ (xs : List ℕ). xs ++ drop (length word) bytes) (same_words (take (length word) bytes) word h)

-- what moved over bytes took them
pub moved_over : {P : Type 0} {p q : Place} {k : ℕ} (s : Front) (bytes rest : List ℕ) → Passes p q bytes k → s.rest ≡ bytes ++ rest → P → Takes p q k s (moved s rest) bytes P
moved_over {p = p} s bytes rest passing are held fine =
    record { fine = fine; are = are; count = ap (ahead p) are ∙ passing.passes rest; holds = λ short. held }

pub skip_took : {p q : Place} {k : ℕ} (word : List ℕ) (s : Front) → Passes p q word k → Holds (λ t. Takes p q k s t word (Unit {0})) (skip word s)
unfolding skip
skip_took word s passing =
    choice (begins word s.rest) (λ h. went (moved_over s word (drop (length word) s.rest) passing (begun word s.rest h) tt)) (λ h. failed)

pub end_took : (s : Front) → Holds (λ t. Takes Within Start 0 s t (codes "\n") (Unit {0})) (end_read s)
unfolding end_read
end_took s = next (skip_took (codes "\n") s line_feed) (λ t a. choice t.fine (λ is. went (at_start t a is)) (λ h. failed)) where
  at_start : (t : Front) → Takes Within Start 0 s t (codes "\n") (Unit {0}) → t.fine ≡ true → Takes Within Start 0 s (line_start t.rest) (codes "\n") (Unit {0})
  at_start t a is fine = let b = a is in record { fine = b.fine; are = b.are; count = b.count; holds = b.holds }

pub end_fine : (s : Front) → Holds (λ t. t.fine ≡ true) (end_read s)
unfolding end_read
end_fine s = next (skip_took (codes "\n") s line_feed) (λ t a. choice t.fine (λ is. went refl) (λ h. failed))
