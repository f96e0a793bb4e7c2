-- The table of fields as a test, as the formats have it.
use Rattle.std.proofs.Common.{◌≡◌, ◌≤◌, ◌<◌, ◌⊎◌, inl, inr, ℕ, List, Option, Some, None, arith, refl, ap, sym, ◌∙◌, true, false, Bool}
use Rattle.std.specs.Prelude.{ℤ, pos, ◌&&◌, ◌||◌, ◌==◌, not, nat_eq, nat_le, nat_lt, codes}
use Rattle.std.specs.List.{list_any}
use Rattle.std.specs.Int.{w32, cast_signed}
use Rattle.std.specs.Ordering.{int_eq}
use Rattle.std.specs.Cmp.Lexicographic.{pointwise}
use Rattle.std.proofs.lemmas.Bool.{cases_Bool, and_cases, eqb-true, eqb-false, leb-true, leb-false, ltb-true, ltb-false, or_parts}
use Rattle.std.proofs.lemmas.Bool.Decides.{Decides-int_eq}
use Rattle.syntax.specs.Spellings.{is_identifier, keywords}
use Rattle.image_format.specs.Format.{unless}
use Rattle.image_format.specs.TreeFormat.{within}
use Rattle.image_reader.specs.Grammar.{has, is_again, is_above, is_taken, wrong_name}
use Rattle.image_reader.proofs.Words.{same_words}
use Rattle.image_reader_law.specs.Fields.{Field, letters, version, any, ranged, kind, tag, one_of, none, none_up_to, event, too_deep, handled, no_operand, number, Wrong, Rule, fresh, own_name, handler, Breaks}

-- the first of two
abbrev pub or_else : Option ℕ → Option ℕ → Option ℕ
or_else (Some n) later = Some n
or_else None later = later

abbrev pub fault_of : Field → List ℕ → Option ℕ
fault_of letters v = unless (pointwise nat_eq v (codes "RTEU")) 1
fault_of version v = unless (number 2 v == 1 || number 2 v == 2) 1
fault_of (any size) v = None
fault_of (ranged size low high) v = within low high (number size v)
fault_of (kind most) v = unless (nat_le (number 1 v) most) 6
fault_of (tag most) v = unless (nat_le 1 (number 1 v) && nat_le (number 1 v) most) 6
fault_of (one_of count) v = unless (nat_lt (number 2 v) count) 4
fault_of none v = unless (number 2 v == 0) 7
fault_of (none_up_to high) v = or_else (within 0 high (number 4 v)) (unless (number 4 v == 0) 7)
fault_of (event events used) v = unless (nat_lt (number 2 v) events && not (list_any (λ e. nat_eq e (number 2 v)) used)) 4
fault_of too_deep v = Some 4
fault_of (handled earlier) v = unless (is_above earlier (number 2 v) && is_taken (number 2 v)) 8
fault_of no_operand v = unless (int_eq (cast_signed w32 (number 4 v)) (pos 0)) 7

abbrev pub fault_of_rule : Rule → Option ℕ
fault_of_rule (fresh taken name) = wrong_name taken name
fault_of_rule (own_name earlier c) = unless (not (is_again earlier c)) 5
fault_of_rule (handler address numbers) = unless (nat_lt 0 numbers || address == 0) 7

-- ---- one test

told : (b : Bool) (m n : ℕ) → unless b m ≡ Some n → (n ≡ m) × (b ≡ false)
told true m n is = absurd cc
told false m n is = (let same : m ≡ n = cc in sym same, refl)

tells : (b : Bool) (m n : ℕ) → n ≡ m → b ≡ false → unless b m ≡ Some n
tells true m n same is = absurd cc
tells false m n same is = ap Some (sym same)

not_is : (b : Bool) → not b ≡ false → b ≡ true
not_is true is = refl
not_is false is = absurd cc

is_not : (b : Bool) → b ≡ true → not b ≡ false
is_not b is = ap not is

-- one of two fails
left_fails : (a b : Bool) → a ≡ false → (a && b) ≡ false
left_fails a b is = ap (λ x. x && b) is

right_fails : (a b : Bool) → b ≡ false → (a && b) ≡ false
right_fails true b is = is
right_fails false b is = refl

both_fail : (a b : Bool) → a ≡ false → b ≡ false → (a || b) ≡ false
both_fail a b first second = ap (λ x. x || b) first ∙ second

not_equal : (m n : ℕ) → (m ≡ n → ⊥) → nat_eq m n ≡ false
not_equal m n other = by (cases_Bool (nat_eq m n)) where
  by : (nat_eq m n ≡ true) ⊎ (nat_eq m n ≡ false) → nat_eq m n ≡ false
  by (inl is) = absurd (other (eqb-true m n is))
  by (inr is) = is

too_high : (n high : ℕ) → high < n → nat_le n high ≡ false
too_high n high less = by (cases_Bool (nat_le n high)) where
  by : (nat_le n high ≡ true) ⊎ (nat_le n high ≡ false) → nat_le n high ≡ false
  by (inl is) = absurd (omega (arith, leb-true n high is, less))
  by (inr is) = is

not_below : (n count : ℕ) → count ≤ n → nat_lt n count ≡ false
not_below n count le = by (cases_Bool (nat_lt n count)) where
  by : (nat_lt n count ≡ true) ⊎ (nat_lt n count ≡ false) → nat_lt n count ≡ false
  by (inl is) = absurd (omega (arith, ltb-true n count is, le))
  by (inr is) = is

outside : (low high n : ℕ) → (nat_le low n && nat_le n high) ≡ false → (n < low) ⊎ (high < n)
outside low high n is = by (and_cases (nat_le low n) (nat_le n high) is) where
  by : (nat_le low n ≡ false) ⊎ (nat_le n high ≡ false) → (n < low) ⊎ (high < n)
  by (inl under) = inl (leb-false low n under)
  by (inr over) = inr (leb-false n high over)

is_outside : (low high n : ℕ) → (n < low) ⊎ (high < n) → (nat_le low n && nat_le n high) ≡ false
is_outside low high n (inl under) = left_fails (nat_le low n) (nat_le n high) (too_high low n under)
is_outside low high n (inr over) = right_fails (nat_le low n) (nat_le n high) (too_high n high over)

-- ---- each sort of field

letters_other : (v : List ℕ) → pointwise nat_eq v (codes "RTEU") ≡ false → v ≡ codes "RTEU" → ⊥
letters_other v h same = let test : pointwise nat_eq v (codes "RTEU") ≡ true = ap (λ (m : List ℕ). pointwise nat_eq m (codes "RTEU")) same in cc

other_letters : (v : List ℕ) → (v ≡ codes "RTEU" → ⊥) → pointwise nat_eq v (codes "RTEU") ≡ false
other_letters v other = by (cases_Bool (pointwise nat_eq v (codes "RTEU"))) where
  by : (pointwise nat_eq v (codes "RTEU") ≡ true) ⊎ (pointwise nat_eq v (codes "RTEU") ≡ false) → pointwise nat_eq v (codes "RTEU") ≡ false
  by (inl is) = absurd (other (same_words v (codes "RTEU") is))
  by (inr is) = is

operand_other : (z : ℤ) → int_eq z (pos 0) ≡ false → z ≡ pos 0 → ⊥
operand_other z h same = let test : int_eq z (pos 0) ≡ true = (Decides-int_eq z (pos 0)).1 same in cc

other_operand : (z : ℤ) → (z ≡ pos 0 → ⊥) → int_eq z (pos 0) ≡ false
other_operand z other = by (cases_Bool (int_eq z (pos 0))) where
  by : (int_eq z (pos 0) ≡ true) ⊎ (int_eq z (pos 0) ≡ false) → int_eq z (pos 0) ≡ false
  by (inl is) = absurd (other ((Decides-int_eq z (pos 0)).0 is))
  by (inr is) = is

pub wrong_is : (f : Field) (v : List ℕ) (n : ℕ) → fault_of f v ≡ Some n → Wrong f v n
wrong_is letters v n is = let t = told (pointwise nat_eq v (codes "RTEU")) 1 n is in (t.0, letters_other v t.1)
wrong_is version v n is =
    let t = told (number 2 v == 1 || number 2 v == 2) 1 n is in
    let p = or_parts (number 2 v == 1) (number 2 v == 2) t.1 in
    (t.0, eqb-false (number 2 v) 1 p.0, eqb-false (number 2 v) 2 p.1)
wrong_is (any size) v n is = absurd cc
wrong_is (ranged size low high) v n is = let t = told (nat_le low (number size v) && nat_le (number size v) high) 4 n is in (t.0, outside low high (number size v) t.1)
wrong_is (kind most) v n is = let t = told (nat_le (number 1 v) most) 6 n is in (t.0, leb-false (number 1 v) most t.1)
wrong_is (tag most) v n is = let t = told (nat_le 1 (number 1 v) && nat_le (number 1 v) most) 6 n is in (t.0, outside 1 most (number 1 v) t.1)
wrong_is (one_of count) v n is = let t = told (nat_lt (number 2 v) count) 4 n is in (t.0, ltb-false (number 2 v) count t.1)
wrong_is none v n is = let t = told (number 2 v == 0) 7 n is in (t.0, eqb-false (number 2 v) 0 t.1)
wrong_is (none_up_to high) v n is = by (within 0 high (number 4 v)) refl is where
  by : (o : Option ℕ) → within 0 high (number 4 v) ≡ o → or_else o (unless (number 4 v == 0) 7) ≡ Some n → Wrong (none_up_to high) v n
  by (Some m) at is =
      let t = told (nat_le 0 (number 4 v) && nat_le (number 4 v) high) 4 m at in
      let same : m ≡ n = cc in
      elim (outside 0 high (number 4 v) t.1) [ inl under ↦ absurd (omega (arith, under)) | inr over ↦ inl (sym same ∙ t.0, over) ]
  by None at is =
      let t = told (number 4 v == 0) 7 n is in
      inr (
        t.0,
        elim (cases_Bool (nat_le (number 4 v) high)) [
          | inl le ↦ leb-true (number 4 v) high le
          | inr over ↦ absurd (let e : within 0 high (number 4 v) ≡ Some 4 = tells (nat_le 0 (number 4 v) && nat_le (number 4 v) high) 4 4 refl (right_fails (nat_le 0 (number 4 v)) (nat_le (number 4 v) high) over) in let f : None ≡ Some 4 = sym at ∙ e in cc)
        ],
        eqb-false (number 4 v) 0 t.1,
      )
wrong_is (event events used) v n is =
    let taken = list_any (λ e. nat_eq e (number 2 v)) used in
    let t = told (nat_lt (number 2 v) events && not taken) 4 n is in
    (t.0, elim (and_cases (nat_lt (number 2 v) events) (not taken) t.1) [ inl past ↦ inl (ltb-false (number 2 v) events past) | inr used_one ↦ inr (not_is taken used_one) ])
wrong_is too_deep v n is = (let same : 4 ≡ n = cc in sym same)
wrong_is (handled earlier) v n is =
    let t = told (is_above earlier (number 2 v) && is_taken (number 2 v)) 8 n is in
    (t.0, and_cases (is_above earlier (number 2 v)) (is_taken (number 2 v)) t.1)
wrong_is no_operand v n is = let t = told (int_eq (cast_signed w32 (number 4 v)) (pos 0)) 7 n is in (t.0, operand_other (cast_signed w32 (number 4 v)) t.1)

pub is_wrong : (f : Field) (v : List ℕ) (n : ℕ) → Wrong f v n → fault_of f v ≡ Some n
is_wrong letters v n w = tells (pointwise nat_eq v (codes "RTEU")) 1 n w.0 (other_letters v w.1)
is_wrong version v n w = tells (number 2 v == 1 || number 2 v == 2) 1 n w.0 (both_fail (number 2 v == 1) (number 2 v == 2) (not_equal (number 2 v) 1 w.1) (not_equal (number 2 v) 2 w.2))
is_wrong (any size) v n w = absurd w
is_wrong (ranged size low high) v n w = tells (nat_le low (number size v) && nat_le (number size v) high) 4 n w.0 (is_outside low high (number size v) w.1)
is_wrong (kind most) v n w = tells (nat_le (number 1 v) most) 6 n w.0 (too_high (number 1 v) most w.1)
is_wrong (tag most) v n w = tells (nat_le 1 (number 1 v) && nat_le (number 1 v) most) 6 n w.0 (is_outside 1 most (number 1 v) w.1)
is_wrong (one_of count) v n w = tells (nat_lt (number 2 v) count) 4 n w.0 (not_below (number 2 v) count w.1)
is_wrong none v n w = tells (number 2 v == 0) 7 n w.0 (not_equal (number 2 v) 0 w.1)
is_wrong (none_up_to high) v n (inl w) =
    ap (λ o. or_else o (unless (number 4 v == 0) 7)) (tells (nat_le 0 (number 4 v) && nat_le (number 4 v) high) 4 n w.0 (is_outside 0 high (number 4 v) (inr w.1)))
is_wrong (none_up_to high) v n (inr w) = by (cases_Bool (nat_le 0 (number 4 v) && nat_le (number 4 v) high)) where
  by : ((nat_le 0 (number 4 v) && nat_le (number 4 v) high) ≡ true) ⊎ ((nat_le 0 (number 4 v) && nat_le (number 4 v) high) ≡ false) → fault_of (none_up_to high) v ≡ Some n
  by (inl fits) = ap (λ b. or_else (unless b 4) (unless (number 4 v == 0) 7)) fits ∙ tells (number 4 v == 0) 7 n w.0 (not_equal (number 4 v) 0 w.2)
  by (inr out) = elim (outside 0 high (number 4 v) out) [ inl under ↦ absurd (omega (arith, under)) | inr over ↦ absurd (let le = w.1 in omega (arith, over, le)) ]
is_wrong (event events used) v n w =
    let taken = list_any (λ e. nat_eq e (number 2 v)) used in
    tells (nat_lt (number 2 v) events && not taken) 4 n w.0
    (elim w.1 [ inl past ↦ left_fails (nat_lt (number 2 v) events) (not taken) (not_below (number 2 v) events past) | inr used_one ↦ right_fails (nat_lt (number 2 v) events) (not taken) (is_not taken used_one) ])
is_wrong too_deep v n w = ap Some (sym w)
is_wrong (handled earlier) v n w =
    tells (is_above earlier (number 2 v) && is_taken (number 2 v)) 8 n w.0
    (elim w.1 [ inl low ↦ left_fails (is_above earlier (number 2 v)) (is_taken (number 2 v)) low | inr other ↦ right_fails (is_above earlier (number 2 v)) (is_taken (number 2 v)) other ])
is_wrong no_operand v n w = tells (int_eq (cast_signed w32 (number 4 v)) (pos 0)) 7 n w.0 (other_operand (cast_signed w32 (number 4 v)) w.1)

-- ---- rules

pub breaks_is : (r : Rule) (n : ℕ) → fault_of_rule r ≡ Some n → Breaks r n
breaks_is (fresh taken name) n is =
    let t = told (is_identifier name && not (has keywords name) && not (has taken name)) 5 n is in (
      t.0,
      elim (and_cases (is_identifier name && not (has keywords name)) (not (has taken name)) t.1) [
        | inl front ↦ elim (and_cases (is_identifier name) (not (has keywords name)) front) [ inl spelled ↦ inl spelled | inr keyword ↦ inr (inl (not_is (has keywords name) keyword)) ]
        | inr other ↦ inr (inr (not_is (has taken name) other))
      ],
    )
breaks_is (own_name earlier c) n is = let t = told (not (is_again earlier c)) 5 n is in (t.0, not_is (is_again earlier c) t.1)
breaks_is (handler address numbers) n is =
    let t = told (nat_lt 0 numbers || address == 0) 7 n is in
    let p = or_parts (nat_lt 0 numbers) (address == 0) t.1 in
    (t.0, omega (arith, ltb-false 0 numbers p.0), eqb-false address 0 p.1)

pub is_broken : (r : Rule) (n : ℕ) → Breaks r n → fault_of_rule r ≡ Some n
is_broken (fresh taken name) n w =
    let front = is_identifier name && not (has keywords name) in
    tells (front && not (has taken name)) 5 n w.0
    (elim w.1 [
      | inl other ↦ left_fails front (not (has taken name)) (left_fails (is_identifier name) (not (has keywords name)) other)
      | inr more ↦ elim more [
        | inl keyword ↦ left_fails front (not (has taken name)) (right_fails (is_identifier name) (not (has keywords name)) (is_not (has keywords name) keyword))
        | inr other ↦ right_fails front (not (has taken name)) (is_not (has taken name) other)
      ]
    ])
is_broken (own_name earlier c) n w = tells (not (is_again earlier c)) 5 n w.0 (is_not (is_again earlier c) w.1)
is_broken (handler address numbers) n w =
    tells (nat_lt 0 numbers || address == 0) 7 n w.0 (both_fail (nat_lt 0 numbers) (address == 0) (let none = w.1 in not_below 0 numbers (omega (arith, none))) (not_equal address 0 w.2))
