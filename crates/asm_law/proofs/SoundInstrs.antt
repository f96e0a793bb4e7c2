-- The lines of instructions.
use Rattle.std.proofs.Common.{◌≡◌, ◌≤◌, ◌<◌, ◌-◌, ◌+◌, ◌++◌, ◌&&◌, ◌||◌, ◌==◌, ℕ, zero, suc, ℤ, Bool, true, false, List, [], ◌∷◌, length, take, drop, map, Option, Some, None, refl, sym, ap, ◌∙◌, arith}
use Rattle.std.specs.Prelude.{codes, nat_le, nat_eq, slice_index_or, slice_get, if◌then◌else◌}
use Rattle.std.specs.Cmp.Lexicographic.{pointwise}
use Rattle.std.specs.Fmt.{signed_decimal}
use Rattle.std.specs.List.{list_all}
use Rattle.std.proofs.lemmas.Bool.{lt-ltb, le-leb, and_parts}
use Rattle.std.proofs.lemmas.List.{take-append-drop}
use Rattle.machine_isa.specs.declared.instr.Instr.{Instr}
use Rattle.machine_isa.specs.Bytes.{arity, number, operands}
use Rattle.machine_isa.specs.Numbered.{in_order, numbered}
use Rattle.image_reader.specs.Grammar as g
use Rattle.image_reader.proofs.Words.{same_words}
use Rattle.asm_format.specs.Mnemonics.{mnemonics, mnemonic, named, operands_text, instr_line}
use Rattle.text_fields.specs.Front.{Front, moved}
use Rattle.asm_lines.specs.Names.{word_len}
use Rattle.asm_lines.specs.Instrs.{place_from, number_of, operand_read, numbered_read, of_number, instr_read}
use Rattle.asm_law.proofs.Took.{Start, Within, Takes, on, shown, nothing, Holds, went, failed, next, mapped}
use Rattle.asm_law.proofs.Passing.{opens_other, inside, other_line, moved_over, skip_took, end_took}
use Rattle.asm_law.proofs.SoundNumbers.{both_true, fine_of, signed_took}
use Rattle.image_reader_law.proofs.ImageSoundInstructions.{masked}

-- ---- an instruction by its number and its operands

-- those that the instruction of the number names, and zeros for the others
abbrev operands_with : ℕ → (a b c : ℤ) → List ℤ
operands_with n a b c = masked (nat_le 1 (arity n)) a ∷ masked (nat_le 2 (arity n)) b ∷ masked (nat_le 3 (arity n)) c ∷ []

abbrev parts_of : Instr → ℕ × List ℤ
parts_of instr = (number instr, operands instr)

-- so many, by the numbers from one on
abbrev all_parts : (a b c : ℤ) → (from count : ℕ) → List (ℕ × List ℤ)
all_parts a b c from zero = []
all_parts a b c from (suc count) = (from, operands_with from a b c) ∷ all_parts a b c (suc from) count

all_spelled : (a b c : ℤ) → map parts_of (in_order a b c) ≡ all_parts a b c 1 48
all_spelled a b c = refl

found : (a b c : ℤ) (from count k : ℕ) (xs : List Instr) → map parts_of xs ≡ all_parts a b c from count → k < count → parts_of (g.or_end (slice_get xs k)) ≡ (from + k, operands_with (from + k) a b c)
found a b c from zero k xs h low = absurd (omega (arith, low))
found a b c from (suc count) k [] h low = cc
found a b c from (suc count) zero (x ∷ xs) h low =
    let first : parts_of x ≡ (from, operands_with from a b c) = cc in
    first ∙ ap (λ n. (n, operands_with n a b c)) (let e : from ≡ from + zero = omega arith in e)
found a b c from (suc count) (suc k) (x ∷ xs) h low =
    let rest : map parts_of xs ≡ all_parts a b c (suc from) count = cc in
    found a b c (suc from) count k xs rest (omega (arith, low)) ∙ ap (λ n. (n, operands_with n a b c)) (let e : suc from + k ≡ from + suc k = omega arith in e)

-- the instruction of a number
abbrev instr_of : ℕ → (a b c : ℤ) → Instr
instr_of n a b c = g.or_end (numbered n a b c)

parts_are : (n : ℕ) (a b c : ℤ) → 1 ≤ n → n ≤ 48 → parts_of (instr_of n a b c) ≡ (n, operands_with n a b c)
parts_are zero a b c low high = absurd (omega (arith, low))
parts_are (suc k) a b c low high =
    found a b c 1 48 k (in_order a b c) (all_spelled a b c) (omega (arith, high)) ∙ ap (λ n. (n, operands_with n a b c)) (let e : 1 + k ≡ suc k = omega arith in e)

-- ---- the name

record Placed (from n : ℕ) (words : List (List ℕ)) (word : List ℕ) : Type 0 where
  low : from ≤ n
  high : n < from + length words
  is : word ≡ slice_index_or words (n - from) []
  opens : opens_other word ≡ true

placed : (from : ℕ) (words : List (List ℕ)) (word : List ℕ) (n : ℕ) → list_all opens_other words ≡ true → place_from from words word ≡ Some n → Placed from n words word
placed from [] word n all h = cc
placed from (w ∷ words) word n all h = by (pointwise nat_eq word w) refl h (λ later. placed (from + 1) words word n others later) where
  others : list_all opens_other words ≡ true
  others = (and_parts (opens_other w) (list_all opens_other words) all).1

  by : (b : Bool) → pointwise nat_eq word w ≡ b → (if b then Some from else place_from (from + 1) words word) ≡ Some n
      → (place_from (from + 1) words word ≡ Some n → Placed (from + 1) n words word) → Placed from n (w ∷ words) word
  by true same h later =
      let here : from ≡ n = cc in
      let word_is : word ≡ w = same_words word w same in
      let first : n - from ≡ 0 = omega (arith, here) in
      record {
        low = omega (arith, here);
        high = omega (arith, here);
        is = word_is ∙ ap (λ k. slice_index_or (w ∷ words) k []) (sym first);
        opens = ap opens_other word_is ∙ (and_parts (opens_other w) (list_all opens_other words) all).0;
      }
  by false same h later =
      let r = later h in
      let further : n - from ≡ suc (n - (from + 1)) = omega (arith, r.low) in
      record { low = omega (arith, r.low); high = omega (arith, r.high); is = r.is ∙ ap (λ k. slice_index_or (w ∷ words) k []) (sym further); opens = r.opens }

-- ---- operands

abbrev operand_text : Bool → ℤ → List ℕ
operand_text true z = codes " " ++ signed_decimal z
operand_text false z = []

-- one that is not named is 0
abbrev Operand : Bool → Front → ℤ × Front → Type 0
Operand is_named s z = (masked is_named z.0 ≡ z.0) × Takes Within Within 0 s z.1 (operand_text is_named z.0) ((g.operand is_named).is z.0 ≡ true)

operand_took : (is_named : Bool) (s : Front) → Holds (Operand is_named s) (operand_read is_named s)
unfolding operand_read
operand_took true s = next (skip_took (codes " ") s (inside (codes " ") refl)) (λ t a. mapped (λ z b. (refl, (let took = on a b in shown took refl (λ held. both_true held.1 refl)))) (signed_took t))
operand_took false s = went (refl, shown (nothing s) refl (λ held. refl))

abbrev three_text : ℕ → (a b c : ℤ) → List ℕ
three_text n a b c = operand_text (nat_le 1 (arity n)) a ++ (operand_text (nat_le 2 (arity n)) b ++ (operand_text (nat_le 3 (arity n)) c ++ codes "\n"))

-- by how many operands are named
by_arity : (k : ℕ) (a b c : ℤ) → k ≤ 3
    → operand_text (nat_le 1 k) a ++ (operand_text (nat_le 2 k) b ++ (operand_text (nat_le 3 k) c ++ codes "\n")) ≡ operands_text (take k (a ∷ b ∷ c ∷ []))
by_arity zero a b c low = refl
by_arity (suc zero) a b c low = refl
by_arity (suc (suc zero)) a b c low = refl
by_arity (suc (suc (suc zero))) a b c low = refl
by_arity (suc (suc (suc (suc k)))) a b c low = absurd (omega (arith, low))

at_most_three : (n : ℕ) → arity n ≤ 3
at_most_three n = by ((nat_le 14 n && nat_le n 28) || n == 36 || n == 37 || n == 48) ((nat_le 8 n && nat_le n 13) || n == 40) (n == 29) where
  by : (a b c : Bool) → (if a then 0 else (if b then 3 else (if c then 2 else 1))) ≤ 3
  by true b c = omega arith
  by false true c = omega arith
  by false false true = omega arith
  by false false false = omega arith

-- ---- the line

abbrev Numbered : ℕ → Front → Instr × Front → Type 0
Numbered n s z = (number z.0 ≡ n) × Takes Within Start 0 s z.1 (operands_text (named z.0)) (g.instr_format.is z.0 ≡ true)

in_place : {x y z a b c : ℤ} → x ≡ a → y ≡ b → z ≡ c → x ∷ y ∷ z ∷ [] ≡ a ∷ b ∷ c ∷ []
in_place p q r = cc

numbered_took : (n : ℕ) (s : Front) → 1 ≤ n → n ≤ 48 → Holds (Numbered n s) (numbered_read n s)
unfolding numbered_read
numbered_took n s low high =
    next (operand_took (nat_le 1 (arity n)) s) (λ x p. next (operand_took (nat_le 2 (arity n)) x.1) (λ y q. next (operand_took (nat_le 3 (arity n)) y.1) (λ z r. next (end_took z.1) (λ t e.
    let took = on p.1 (on q.1 (on r.1 e)) in went (numbers x.0 y.0 z.0 p.0 q.0 r.0 s t took)))))
  where
    -- the instruction of these operands
    same : (a b c : ℤ) → masked (nat_le 1 (arity n)) a ≡ a → masked (nat_le 2 (arity n)) b ≡ b → masked (nat_le 3 (arity n)) c ≡ c → parts_of (instr_of n a b c) ≡ (n, a ∷ b ∷ c ∷ [])
    same a b c p q r = parts_are n a b c low high ∙ ap (λ (zs : List ℤ). (n, zs)) (in_place p q r)

    numbers : (a b c : ℤ) → masked (nat_le 1 (arity n)) a ≡ a → masked (nat_le 2 (arity n)) b ≡ b → masked (nat_le 3 (arity n)) c ≡ c → (u t : Front)
        → Takes Within Start 0 u t (three_text n a b c)
        (((g.operand (nat_le 1 (arity n))).is a ≡ true) × (((g.operand (nat_le 2 (arity n))).is b ≡ true) × (((g.operand (nat_le 3 (arity n))).is c ≡ true) × Unit {0})))
        → Numbered n u (instr_of n a b c, t)
    numbers a b c p q r u t took =
        let e = same a b c p q r in
        let number_fits = both_true (lt-ltb n 256 (omega (arith, high))) (fine_of 6 (both_true (le-leb 1 n low) (le-leb n 48 high))) in (
          ap (λ (x : ℕ × List ℤ). x.0) e,
          shown took (by_arity (arity n) a b c (at_most_three n) ∙ ap operands_text (sym (ap (λ (x : ℕ × List ℤ). take (arity x.0) x.1) e)))
              (λ held. ap (λ (x : ℕ × List ℤ). g.fields_format.is (g.fields_of x.1 x.0)) e ∙ both_true number_fits (both_true held.0 (both_true held.1.0 held.1.1.0))),
        )

pub instr_took : (s : Front) → Holds (λ z. Takes Start Start 0 s z.1 (instr_line z.0) (g.instr_format.is z.0 ≡ true)) (instr_read s)
unfolding instr_read
instr_took s = by (number_of (take (word_len s.rest) s.rest)) refl where
  word_took : opens_other (take (word_len s.rest) s.rest) ≡ true → Takes Start Within 0 s (moved s (drop (word_len s.rest) s.rest)) (take (word_len s.rest) s.rest) (Unit {0})
  word_took opens =
      moved_over s (take (word_len s.rest) s.rest) (drop (word_len s.rest) s.rest) (other_line (take (word_len s.rest) s.rest) opens) (sym (take-append-drop (word_len s.rest) s.rest)) tt

  by : (o : Option ℕ) → number_of (take (word_len s.rest) s.rest) ≡ o
      → Holds (λ z. Takes Start Start 0 s z.1 (instr_line z.0) (g.instr_format.is z.0 ≡ true)) (of_number o (moved s (drop (word_len s.rest) s.rest)))
  by None h = failed
  by (Some n) h =
      let p = placed 1 mnemonics (take (word_len s.rest) s.rest) n refl h in
      mapped (λ z a. let took = on (word_took p.opens) a.1 in
      shown took (ap (λ (xs : List ℕ). xs ++ operands_text (named z.0)) (p.is ∙ ap mnemonic (sym a.0))) (λ held. held.1))
      (numbered_took n (moved s (drop (word_len s.rest) s.rest)) p.low (omega (arith, p.high)))
