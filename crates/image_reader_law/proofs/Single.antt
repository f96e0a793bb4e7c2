-- The faults of fields and rules, number by number.
use Rattle.std.proofs.Common.{◌≡◌, ◌≤◌, ◌⊎◌, inl, inr, ℕ, List, arith}
use Rattle.image_format.specs.FormatLaw.{AreBytes}
use Rattle.image_reader_law.specs.Faults.{IsFileFault}
use Rattle.image_reader_law.specs.Fields.{Field, letters, version, any, ranged, kind, tag, one_of, none, none_up_to, event, too_deep, handled, no_operand, Wrong, Rule, fresh, own_name, handler, Breaks}
use Rattle.image_reader_law.specs.FieldsLaw.{FieldWrongAt, RuleBrokenAt, ProcessLacksAt, OutOfRangeIsI4, WrongNamesAreI5, WrongKindsAreI6, NumbersForNothingAreI7, WrongHandledNumbersAreI8}
use Rattle.image_reader_law.proofs.FieldLaws.{wrong_fields_are_told}

-- no field has I5
no_field : (x : Field) (v : List ℕ) → Wrong x v 5 → ⊥
no_field letters v w = (let is = w.0 in omega (arith, is))
no_field version v w = (let is = w.0 in omega (arith, is))
no_field (any size) v w = w
no_field (ranged size low high) v w = (let is = w.0 in omega (arith, is))
no_field (kind most) v w = (let is = w.0 in omega (arith, is))
no_field (tag most) v w = (let is = w.0 in omega (arith, is))
no_field (one_of count) v w = (let is = w.0 in omega (arith, is))
no_field none v w = (let is = w.0 in omega (arith, is))
no_field (none_up_to high) v (inl w) = (let is = w.0 in omega (arith, is))
no_field (none_up_to high) v (inr w) = (let is = w.0 in omega (arith, is))
no_field (event events used) v w = (let is = w.0 in omega (arith, is))
no_field too_deep v w = omega (arith, w)
no_field (handled earlier) v w = (let is = w.0 in omega (arith, is))
no_field no_operand v w = (let is = w.0 in omega (arith, is))

-- rules have I5 and I7
five_or_seven : (r : Rule) (n : ℕ) → Breaks r n → (n ≡ 5) ⊎ (n ≡ 7)
five_or_seven (fresh taken name) n w = inl w.0
five_or_seven (own_name earlier c) n w = inl w.0
five_or_seven (handler address numbers) n w = inr w.0

module _ (bytes : List ℕ) (fault offset : ℕ) (are : AreBytes bytes) (low : 4 ≤ fault) (high : fault ≤ 8) where
  of_field : FieldWrongAt bytes fault offset → IsFileFault bytes fault offset
  of_field w = (wrong_fields_are_told bytes fault offset are low high).1 (record { few = w.few; l = w.l; rest = w.rest; reaches = w.reaches; stands = inl (w.wrong, w.place) })

  of_rule : RuleBrokenAt bytes fault offset → IsFileFault bytes fault offset
  of_rule w = (wrong_fields_are_told bytes fault offset are low high).1 (record { few = w.few; l = w.l; rest = w.rest; reaches = w.reaches; stands = inr (inl (w.back, w.broken, w.place)) })

  of_lack : fault ≡ 4 → ProcessLacksAt bytes offset → IsFileFault bytes fault offset
  of_lack four w = (wrong_fields_are_told bytes fault offset are low high).1 (record { few = w.few; l = w.l; rest = w.rest; reaches = w.reaches; stands = inr (inr (four, w.lacks, w.place)) })

  -- the three ways
  ways : {P : Type 0} → (FieldWrongAt bytes fault offset → P) → (RuleBrokenAt bytes fault offset → P) → (fault ≡ 4 → ProcessLacksAt bytes offset → P) → IsFileFault bytes fault offset → P
  ways by_field by_rule by_lack h =
      let w = (wrong_fields_are_told bytes fault offset are low high).0 h in
      elim w.stands [
        | inl x ↦ by_field (record { few = w.few; l = w.l; rest = w.rest; reaches = w.reaches; wrong = x.0; place = x.1 })
        | inr more ↦ elim more [
          | inl x ↦ by_rule (record { few = w.few; l = w.l; rest = w.rest; reaches = w.reaches; back = x.0; broken = x.1; place = x.2 })
          | inr x ↦ by_lack x.0 (record { few = w.few; l = w.l; rest = w.rest; reaches = w.reaches; lacks = x.1; place = x.2 })
        ]
      ]

not_by_rule : {P : Type 0} (n : ℕ) (r : Rule) → (n ≡ 5 → ⊥) → (n ≡ 7 → ⊥) → Breaks r n → P
not_by_rule n r five seven b = elim (five_or_seven r n b) [ inl is ↦ absurd (five is) | inr is ↦ absurd (seven is) ]

pub out_of_range_is_i4 : OutOfRangeIsI4
out_of_range_is_i4 bytes offset are = (
  ways bytes 4 offset are (omega arith) (omega arith) (λ w. inl w) (λ w. not_by_rule 4 w.broken.r (λ e. omega (arith, e)) (λ e. omega (arith, e)) w.broken.breaks) (λ four w. inr w),
  (λ h. elim h [ inl w ↦ of_field bytes 4 offset are (omega arith) (omega arith) w | inr w ↦ of_lack bytes 4 offset are (omega arith) (omega arith) (omega arith) w ]),
)

pub wrong_names_are_i5 : WrongNamesAreI5
wrong_names_are_i5 bytes offset are = (
  ways bytes 5 offset are (omega arith) (omega arith) (λ w. absurd (no_field w.wrong.f w.wrong.value w.wrong.wrong)) (λ w. w) (λ four w. absurd (omega (arith, four))),
  of_rule bytes 5 offset are (omega arith) (omega arith),
)

pub wrong_kinds_are_i6 : WrongKindsAreI6
wrong_kinds_are_i6 bytes offset are = (
  ways bytes 6 offset are (omega arith) (omega arith) (λ w. w) (λ w. not_by_rule 6 w.broken.r (λ e. omega (arith, e)) (λ e. omega (arith, e)) w.broken.breaks) (λ four w. absurd (omega (arith, four))),
  of_field bytes 6 offset are (omega arith) (omega arith),
)

pub numbers_for_nothing_are_i7 : NumbersForNothingAreI7
numbers_for_nothing_are_i7 bytes offset are = (
  ways bytes 7 offset are (omega arith) (omega arith) (λ w. inl w) (λ w. inr w) (λ four w. absurd (omega (arith, four))),
  (λ h. elim h [ inl w ↦ of_field bytes 7 offset are (omega arith) (omega arith) w | inr w ↦ of_rule bytes 7 offset are (omega arith) (omega arith) w ]),
)

pub wrong_handled_numbers_are_i8 : WrongHandledNumbersAreI8
wrong_handled_numbers_are_i8 bytes offset are = (
  ways bytes 8 offset are (omega arith) (omega arith) (λ w. w) (λ w. not_by_rule 8 w.broken.r (λ e. omega (arith, e)) (λ e. omega (arith, e)) w.broken.breaks) (λ four w. absurd (omega (arith, four))),
  of_field bytes 8 offset are (omega arith) (omega arith),
)
