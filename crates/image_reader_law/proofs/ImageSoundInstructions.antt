-- The bytes of an instruction are those that it is read from.
use Rattle.std.proofs.Common.{◌≡◌, ◌≤◌, ◌<◌, ◌&&◌, ◌||◌, ◌+◌, ℕ, zero, suc, Bool, true, false, ℤ, List, [], ◌∷◌, length, refl, sym, ap, ◌∙◌, arith}
use Rattle.std.specs.Prelude.{nat_lt, nat_le, pos, slice_get, flat_map}
use Rattle.std.specs.Ordering.{int_eq}
use Rattle.std.proofs.lemmas.Bool.{leb-true, and_parts}
use Rattle.std.proofs.lemmas.Bool.Decides.{Decides-int_eq}
use Rattle.machine_isa.specs.declared.instr.Instr.{Instr}
use Rattle.machine_isa.specs.Bytes.{arity, number, operands, word_bytes, instr_bytes}
use Rattle.machine_isa.specs.Numbered.{in_order, numbered}
use Rattle.image_format.specs.Format.{Format, unless, is_fine, u8, checked, both}
use Rattle.image_reader.specs.Grammar as g
use Rattle.image_format.specs.FormatLaw.{IsSound}
use Rattle.image_format.proofs.Sound.{checked_sound, both_sound, via_sound}
use Rattle.image_format.proofs.SoundFields.{u8_sound}
use Rattle.image_reader_law.proofs.ImageFaultsFields.{fine_is, word_sound, is_word}
use Rattle.machine_isa.proofs.Back.{spelled}

int_same : (x y : ℤ) → int_eq x y ≡ true → x ≡ y
int_same x y h = (Decides-int_eq x y).0 h

same_int : (x y : ℤ) → x ≡ y → int_eq x y ≡ true
same_int x y h = (Decides-int_eq x y).1 h

-- ---- a number and three operands, of which those that are not named are 0

abbrev pub masked : Bool → ℤ → ℤ
masked true z = z
masked false z = pos 0

abbrev fields_with : ℕ → (a b c : ℤ) → ℕ × (ℤ × (ℤ × ℤ))
fields_with n a b c = (n, (masked (nat_le 1 (arity n)) a, (masked (nat_le 2 (arity n)) b, masked (nat_le 3 (arity n)) c)))

abbrev pub fields_in : Instr → ℕ × (ℤ × (ℤ × ℤ))
fields_in instr = g.fields_of (operands instr) (number instr)

-- each of a list, by the numbers from one on
abbrev AreSpelled : (a b c : ℤ) → ℕ → List Instr → Type 0
AreSpelled a b c n [] = Unit {0}
AreSpelled a b c n (x ∷ xs) = (fields_in x ≡ fields_with n a b c) × AreSpelled a b c (suc n) xs

all_spelled : (a b c : ℤ) → AreSpelled a b c 1 (in_order a b c)
all_spelled a b c = (
  refl,
  (
    refl,
    (
      refl,
      (
        refl,
        (
          refl,
          (
            refl,
            (
              refl,
              (
                refl,
                (
                  refl,
                  (
                    refl,
                    (
                      refl,
                      (
                        refl,
                        (
                          refl,
                          (
                            refl,
                            (
                              refl,
                              (
                                refl,
                                (
                                  refl,
                                  (
                                    refl,
                                    (
                                      refl,
                                      (
                                        refl,
                                        (
                                          refl,
                                          (
                                            refl,
                                            (
                                              refl,
                                              (
                                                refl,
                                                (
                                                  refl,
                                                  (
                                                    refl,
                                                    (
                                                      refl,
                                                      (
                                                        refl,
                                                        (
                                                          refl,
                                                          (
                                                            refl,
                                                            (
                                                              refl,
                                                              (
                                                                refl,
                                                                (refl, (refl, (refl, (refl, (refl, (refl, (refl, (refl, (refl, (refl, (refl, (refl, (refl, (refl, (refl, (refl, tt)))))))))))))))),
                                                              ),
                                                            ),
                                                          ),
                                                        ),
                                                      ),
                                                    ),
                                                  ),
                                                ),
                                              ),
                                            ),
                                          ),
                                        ),
                                      ),
                                    ),
                                  ),
                                ),
                              ),
                            ),
                          ),
                        ),
                      ),
                    ),
                  ),
                ),
              ),
            ),
          ),
        ),
      ),
    ),
  ),
)

found : (a b c : ℤ) (n k : ℕ) (xs : List Instr) → AreSpelled a b c n xs → k < length xs → fields_in (g.or_end (slice_get xs k)) ≡ fields_with (n + k) a b c
found a b c n k [] h low = absurd (omega (arith, low))
found a b c n zero (x ∷ xs) h low = h.0 ∙ ap (λ m. fields_with m a b c) (let e : n ≡ n + zero = omega arith in e)
found a b c n (suc k) (x ∷ xs) h low = found a b c (suc n) k xs h.1 (omega (arith, low)) ∙ ap (λ m. fields_with m a b c) (let e : suc n + k ≡ n + suc k = omega arith in e)

unmasked : (is_named : Bool) (z : ℤ) → is_fine (unless (is_named || int_eq z (pos 0)) 7) ≡ true → masked is_named z ≡ z
unmasked true z h = refl
unmasked false z h = by (int_eq z (pos 0)) refl h where
  by : (b : Bool) → int_eq z (pos 0) ≡ b → is_fine (unless b 7) ≡ true → pos 0 ≡ z
  by true same e = sym (int_same z (pos 0) same)
  by false same e = absurd cc

-- ---- words

operand_sound : (is_named : Bool) → IsSound (g.operand is_named)
operand_sound is_named = checked_sound g.word (λ z. unless (is_named || int_eq z (pos 0)) 7) word_sound

-- ---- number and operands

abbrev pub after_second : ℕ → Format ℤ
after_second n = g.operand (nat_le 3 (arity n))

abbrev pub after_first : ℕ → Format (ℤ × ℤ)
after_first n = both (g.operand (nat_le 2 (arity n))) (λ b. after_second n)

abbrev pub after_number : ℕ → Format (ℤ × (ℤ × ℤ))
after_number n = both (g.operand (nat_le 1 (arity n))) (λ a. after_first n)

abbrev pub number_format : Format ℕ
number_format = checked u8 (λ n. unless (nat_le 1 n && nat_le n 48) 6)

fields_sound : IsSound g.fields_format
fields_sound =
    both_sound number_format after_number (checked_sound u8 (λ n. unless (nat_le 1 n && nat_le n 48) 6) u8_sound) (λ n.
    both_sound (g.operand (nat_le 1 (arity n))) (λ a. after_first n) (operand_sound (nat_le 1 (arity n))) (λ a.
    both_sound (g.operand (nat_le 2 (arity n))) (λ b. after_second n) (operand_sound (nat_le 2 (arity n))) (λ b. operand_sound (nat_le 3 (arity n)))))

numbered_in : (n : ℕ) (a b c : ℤ) → 1 ≤ n → n ≤ 48 → fields_in (g.or_end (numbered n a b c)) ≡ fields_with n a b c
numbered_in zero a b c low high = absurd (omega (arith, low))
numbered_in (suc k) a b c low high =
    found a b c 1 k (in_order a b c) (all_spelled a b c) (omega (arith, high)) ∙ ap (λ m. fields_with m a b c) (let e : 1 + k ≡ suc k = omega arith in e)

there : (x : ℕ × (ℤ × (ℤ × ℤ))) → g.fields_format.is x ≡ true → fields_in (g.or_end (numbered x.0 x.1.0 x.1.1.0 x.1.1.1)) ≡ x
there x h =
    let n = x.0 in
    let front = and_parts (number_format.is n) ((after_number n).is x.1) h in
    let range = fine_is (nat_le 1 n && nat_le n 48) 6 (and_parts (nat_lt n 256) (is_fine (unless (nat_le 1 n && nat_le n 48) 6)) front.0).1 in
    let ends = and_parts (nat_le 1 n) (nat_le n 48) range in
    let low : 1 ≤ n = leb-true 1 n ends.0 in
    let high : n ≤ 48 = leb-true n 48 ends.1 in
    let first = and_parts ((g.operand (nat_le 1 (arity n))).is x.1.0) ((after_first n).is x.1.1) front.1 in
    let second = and_parts ((g.operand (nat_le 2 (arity n))).is x.1.1.0) ((after_second n).is x.1.1.1) first.1 in
    let a = unmasked (nat_le 1 (arity n)) x.1.0 (and_parts (is_word x.1.0) _ first.0).1 in
    let b = unmasked (nat_le 2 (arity n)) x.1.1.0 (and_parts (is_word x.1.1.0) _ second.0).1 in
    let c = unmasked (nat_le 3 (arity n)) x.1.1.1 (and_parts (is_word x.1.1.1) _ second.1).1 in
    numbered_in n x.1.0 x.1.1.0 x.1.1.1 low high ∙ rw (a, b, c) refl

abbrev pub instr_with : ℕ × (ℤ × (ℤ × ℤ)) → Instr
instr_with x = g.or_end (numbered x.0 x.1.0 x.1.1.0 x.1.1.1)

again : (instr : Instr) → instr_with (fields_in instr) ≡ instr
again instr =
    let s = spelled instr in
    ap (λ (zs : List ℤ). instr_with (g.fields_of zs (number instr))) s.operands_are ∙ ap (λ o. g.or_end o) s.numbered_is

pub instr_sound : IsSound g.instr_format
instr_sound = via_sound instr_with fields_in g.fields_format there (λ instr h. again instr) fields_sound

pub instr_is_written : (instr : Instr) → g.instr_format.write instr ≡ instr_bytes instr
instr_is_written instr =
    let s = spelled instr in
    ap (λ (zs : List ℤ). g.fields_format.write (g.fields_of zs (number instr))) s.operands_are
    ∙ last_none s.a s.b s.c (number instr) ∙ ap (λ (zs : List ℤ). number instr ∷ flat_map word_bytes zs) (sym s.operands_are)
  where
    last_none : (a b c : ℤ) (n : ℕ) → g.fields_format.write (n, (a, (b, c))) ≡ n ∷ flat_map word_bytes (a ∷ b ∷ c ∷ [])
    last_none a b c n = refl
