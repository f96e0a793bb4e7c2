-- What is asked of lines, as a test.
use Rattle.std.proofs.Common.{◌≡◌, ◌<◌, ◌⊎◌, inl, inr, ℕ, length, Some, None, arith, refl, sym, ◌∙◌, true, false, Bool}
use Rattle.std.specs.Prelude.{◌&&◌, ◌^◌, not, nat_eq, nat_le, nat_lt}
use Rattle.std.specs.List.{list_any}
use Rattle.std.proofs.lemmas.Bool.{cases_Bool, and_cases, and_parts, leb-true, leb-false, ltb-true, ltb-false}
use Rattle.syntax.specs.Spellings.{is_identifier, keywords}
use Rattle.image_reader.specs.Grammar.{has, is_again, is_taken}
use Rattle.asm_law.specs.Notes.{Note, ranged, operand, one_of, event, fresh, own_name, handled, too_many, lacks_process, IsWrong, Holds}

abbrev pub holds : Note → Bool
holds (ranged low high None) = false
holds (ranged low high (Some n)) = nat_le low n && nat_le n high
holds (operand None) = false
holds (operand (Some n)) = nat_lt n (2 ^ 31)
holds (one_of count n) = nat_lt n count
holds (event events used n) = nat_lt n events && not (list_any (λ e. nat_eq e n) used)
holds (fresh taken name) = nat_le (length name) 63 && (is_identifier name && not (has keywords name) && not (has taken name))
holds (own_name earlier c) = not (is_again earlier c)
holds (handled last n) = nat_lt last n && is_taken n
holds too_many = false
holds lacks_process = false

not_is : (b : Bool) → not b ≡ false → b ≡ true
not_is true is = refl
not_is false is = absurd cc

is_not : (b : Bool) → not b ≡ true → b ≡ true → ⊥
is_not true is same = cc
is_not false is same = cc

true_false : (b : Bool) → b ≡ true → b ≡ false → ⊥
true_false b up down = (let e : true ≡ false = sym up ∙ down in cc)

outside : (low high n : ℕ) → (nat_le low n && nat_le n high) ≡ false → (n < low) ⊎ (high < n)
outside low high n is = by (and_cases (nat_le low n) (nat_le n high) is) where
  by : (nat_le low n ≡ false) ⊎ (nat_le n high ≡ false) → (n < low) ⊎ (high < n)
  by (inl under) = inl (leb-false low n under)
  by (inr over) = inr (leb-false n high over)

pub is_wrong : (x : Note) → holds x ≡ false → IsWrong x
is_wrong (ranged low high None) is = (4, refl)
is_wrong (ranged low high (Some n)) is = (4, (refl, outside low high n is))
is_wrong (operand None) is = (4, refl)
is_wrong (operand (Some n)) is = (4, (refl, ltb-false n (2 ^ 31) is))
is_wrong (one_of count n) is = (4, (refl, ltb-false n count is))
is_wrong (event events used n) is =
    (4, (refl, elim (and_cases (nat_lt n events) (not (list_any (λ e. nat_eq e n) used)) is) [ inl past ↦ inl (ltb-false n events past) | inr one ↦ inr (not_is (list_any (λ e. nat_eq e n) used) one) ]))
is_wrong (fresh taken name) is =
    elim (and_cases (nat_le (length name) 63) (is_identifier name && not (has keywords name) && not (has taken name)) is) [
      | inl long ↦ (4, inl (refl, leb-false (length name) 63 long))
      | inr other ↦ (
        5,
        inr (
          refl,
          elim (and_cases (is_identifier name && not (has keywords name)) (not (has taken name)) other) [
            | inl front ↦ elim (and_cases (is_identifier name) (not (has keywords name)) front) [ inl spelled ↦ inl spelled | inr keyword ↦ inr (inl (not_is (has keywords name) keyword)) ]
            | inr again ↦ inr (inr (not_is (has taken name) again))
          ],
        ),
      )
    ]
is_wrong (own_name earlier c) is = (5, (refl, not_is (is_again earlier c) is))
is_wrong (handled last n) is =
    (8, (refl, elim (and_cases (nat_lt last n) (is_taken n) is) [ inl low ↦ inl (ltb-false last n low) | inr other ↦ inr other ]))
is_wrong too_many is = (4, refl)
is_wrong lacks_process is = (4, refl)

pub is_right : (x : Note) → holds x ≡ true → Holds x
is_right (ranged low high None) is fault w = cc
is_right (ranged low high (Some n)) is fault w =
    let p = and_parts (nat_le low n) (nat_le n high) is in
    let above = leb-true low n p.0 in
    let below = leb-true n high p.1 in
    elim w.1 [ inl under ↦ omega (arith, under, above) | inr over ↦ omega (arith, over, below) ]
is_right (operand None) is fault w = cc
is_right (operand (Some n)) is fault w = (let below = ltb-true n (2 ^ 31) is in let over = w.1 in omega (arith, below, over))
is_right (one_of count n) is fault w = (let below = ltb-true n count is in let over = w.1 in omega (arith, below, over))
is_right (event events used n) is fault w =
    let p = and_parts (nat_lt n events) (not (list_any (λ e. nat_eq e n) used)) is in
    let below = ltb-true n events p.0 in
    elim w.1 [ inl past ↦ omega (arith, past, below) | inr one ↦ is_not (list_any (λ e. nat_eq e n) used) p.1 one ]
is_right (fresh taken name) is fault w =
    let p = and_parts (nat_le (length name) 63) (is_identifier name && not (has keywords name) && not (has taken name)) is in
    let q = and_parts (is_identifier name && not (has keywords name)) (not (has taken name)) p.1 in
    let o = and_parts (is_identifier name) (not (has keywords name)) q.0 in
    let short = leb-true (length name) 63 p.0 in
    elim w [
      | inl long ↦ (let over = long.1 in omega (arith, short, over))
      | inr other ↦ elim other.1 [
        | inl spelled ↦ true_false (is_identifier name) o.0 spelled
        | inr more ↦ elim more [ inl keyword ↦ is_not (has keywords name) o.1 keyword | inr again ↦ is_not (has taken name) q.1 again ]
      ]
    ]
is_right (own_name earlier c) is fault w = is_not (is_again earlier c) is w.1
is_right (handled last n) is fault w =
    let p = and_parts (nat_lt last n) (is_taken n) is in
    let above = ltb-true last n p.0 in
    elim w.1 [ inl low ↦ omega (arith, low, above) | inr other ↦ true_false (is_taken n) p.1 other ]
is_right too_many is fault w = cc
is_right lacks_process is fault w = cc

pub right_is : (x : Note) → Holds x → holds x ≡ true
right_is x h = by (cases_Bool (holds x)) where
  by : (holds x ≡ true) ⊎ (holds x ≡ false) → holds x ≡ true
  by (inl is) = is
  by (inr is) = absurd (let w = is_wrong x is in h w.0 w.1)

pub wrong_is : (x : Note) → IsWrong x → holds x ≡ false
wrong_is x w = by (cases_Bool (holds x)) where
  by : (holds x ≡ true) ⊎ (holds x ≡ false) → holds x ≡ false
  by (inl is) = absurd (is_right x is w.0 w.1)
  by (inr is) = is
