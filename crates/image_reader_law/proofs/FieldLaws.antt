-- The laws of fields.
use Rattle.std.proofs.Common.{◌≡◌, ◌≤◌, ◌⊎◌, inl, inr, ◌+◌, ◌-◌, ℕ, zero, suc, List, [], ◌∷◌, length, Ok, Err, Some, arith, refl, ap, sym, subst, ◌∙◌}
use Rattle.image.specs.Bytes.{Version}
use Rattle.image_format.specs.declared.fault.ByteFault.{ByteFault}
use Rattle.image_format.specs.Format.{Read, fault}
use Rattle.image_format.specs.FormatLaw.{AreBytes}
use Rattle.image_reader.specs.File as f
use Rattle.image_reader.specs.Answer.{HasFault}
use Rattle.image_reader_law.specs.Faults.{IsFileFault}
use Rattle.image_reader_law.proofs.ImageFaultsFiles.{FileFailure, too_long, by_format, behind, file_failed, is_told}
use Rattle.image_reader_law.proofs.ByNumber.{number_of, left_of, of_file}
use Rattle.image_reader_law.specs.Fields.{Field, letters, version, any, ranged, kind, tag, one_of, none, none_up_to, event, too_deep, handled, no_operand, Wrong, Rule, fresh, own_name, handler, Breaks}
use Rattle.image_reader_law.specs.Layout as l
use Rattle.image_reader_law.specs.Layout.{Layout, done, field, rule, lacks_process}
use Rattle.image_reader_law.specs.Places.{Reaches, EndsInside}
use Rattle.image_reader_law.specs.FieldsLaw.{EndsBeforeCode, EndsInField, EndsInsideAreI2, LacksProcess, StandsAt, IsWrongAt, WrongFieldsAreTold}
use Rattle.image_reader_law.proofs.Walks.{walk, Place, Stands, walk_stands, stands_walk}
use Rattle.image_reader_law.proofs.Reading.{follow}
use Rattle.image_reader_law.proofs.FieldImage.{image_as}

-- ---- what is told, by the layout

same_some : (d e : ByteFault) → Some d ≡ Some e → d ≡ e
same_some d e h = cc

read_walk : (bytes : List ℕ) (e : ByteFault) → f.image_format.read bytes ≡ Err e → walk l.image bytes ≡ Some e
read_walk bytes e is = image_as bytes ∙ ap (λ (r : Read (Version × f.Parts)). follow r (λ x rest. walk done rest)) is

walk_read : (bytes : List ℕ) (e : ByteFault) → (e.number ≡ 3 → ⊥) → walk l.image bytes ≡ Some e → f.image_format.read bytes ≡ Err e
walk_read bytes e other is = by (f.image_format.read bytes) refl (sym (image_as bytes) ∙ is) where
  by : (r : Read (Version × f.Parts)) → f.image_format.read bytes ≡ r → follow r (λ x rest. walk done rest) ≡ Some e → f.image_format.read bytes ≡ Err e
  by (Ok (x, [])) was told = absurd cc
  by (Ok (x, b ∷ bs)) was told = absurd (other (sym (number_of (same_some (fault 3 (length (b ∷ bs))) e told))))
  by (Err d) was told = was ∙ ap (λ (y : ByteFault). Err y) (same_some d e told)

-- a fault other than I3 and I9 is one by the layout
stands : (bytes : List ℕ) (number offset : ℕ) → (number ≡ 3 → ⊥) → (number ≡ 9 → ⊥) → IsFileFault bytes number offset
    → (left : ℕ) × (length bytes ≤ f.longest) × (offset ≡ length bytes - left) × Stands l.image bytes (fault number left)
stands bytes number offset three nine h = of_told (is_told bytes number offset h) where
  of_failure : (left : ℕ) → offset ≡ length bytes - left → FileFailure bytes (fault number left) → (left : ℕ) × (length bytes ≤ f.longest) × (offset ≡ length bytes - left) × Stands l.image bytes (fault number left)
  of_failure left place (too_long long same) = absurd (nine (sym (number_of same)))
  of_failure left place (by_format few is) = (left, few, place, walk_stands l.image bytes (fault number left) (read_walk bytes (fault number left) is))
  of_failure left place (behind few x b more is same) = absurd (three (sym (number_of same)))

  of_told : HasFault bytes number offset → (left : ℕ) × (length bytes ≤ f.longest) × (offset ≡ length bytes - left) × Stands l.image bytes (fault number left)
  of_told told = of_failure told.left told.place (file_failed bytes (fault number told.left) told.is_read)

-- and back
stood : (bytes : List ℕ) (number left offset : ℕ) → AreBytes bytes → (number ≡ 3 → ⊥) → length bytes ≤ f.longest → offset ≡ length bytes - left
    → (m : Layout) (rest : List ℕ) → Reaches l.image bytes m rest → Place m rest (fault number left) → IsFileFault bytes number offset
stood bytes number left offset are three few place m rest reaches at =
    of_file bytes number left offset are few (walk_read bytes (fault number left) three (stands_walk l.image bytes m rest (fault number left) reaches at)) (sym place)

-- ---- numbers in the table

wrong_number : (x : Field) (v : List ℕ) (n : ℕ) → Wrong x v n → n ≡ 2 → ⊥
wrong_number letters v n w two = (let is = w.0 in omega (arith, is, two))
wrong_number version v n w two = (let is = w.0 in omega (arith, is, two))
wrong_number (any size) v n w two = w
wrong_number (ranged size low high) v n w two = (let is = w.0 in omega (arith, is, two))
wrong_number (kind most) v n w two = (let is = w.0 in omega (arith, is, two))
wrong_number (tag most) v n w two = (let is = w.0 in omega (arith, is, two))
wrong_number (one_of count) v n w two = (let is = w.0 in omega (arith, is, two))
wrong_number none v n w two = (let is = w.0 in omega (arith, is, two))
wrong_number (none_up_to high) v n (inl w) two = (let is = w.0 in omega (arith, is, two))
wrong_number (none_up_to high) v n (inr w) two = (let is = w.0 in omega (arith, is, two))
wrong_number (event events used) v n w two = (let is = w.0 in omega (arith, is, two))
wrong_number too_deep v n w two = omega (arith, w, two)
wrong_number (handled earlier) v n w two = (let is = w.0 in omega (arith, is, two))
wrong_number no_operand v n w two = (let is = w.0 in omega (arith, is, two))

breaks_number : (r : Rule) (n : ℕ) → Breaks r n → n ≡ 2 → ⊥
breaks_number (fresh taken name) n w two = (let is = w.0 in omega (arith, is, two))
breaks_number (own_name earlier c) n w two = (let is = w.0 in omega (arith, is, two))
breaks_number (handler address numbers) n w two = (let is = w.0 in omega (arith, is, two))

-- ---- I2

ends_at : (m : Layout) (rest : List ℕ) (left : ℕ) → Place m rest (fault 2 left) → (EndsInside m rest ⊎ EndsBeforeCode m rest) × (left ≡ 0)
ends_at done [] left p = absurd p
ends_at done (b ∷ bs) left p = absurd (let three = number_of p in omega (arith, three))
ends_at (field x next) rest left (inl p) = (inl (x, next, refl, p.0), sym (left_of p.1))
ends_at (field x next) rest left (inr w) = absurd (wrong_number x w.value w.number w.wrong (number_of w.is))
ends_at (rule r back next) rest left p = absurd (breaks_number r p.number p.breaks (number_of p.is))
ends_at (lacks_process zero) [] left p = absurd (let four = number_of p in omega (arith, four))
ends_at (lacks_process zero) (b ∷ bs) left p = absurd (let three = number_of p in omega (arith, three))
ends_at (lacks_process (suc n)) [] left p = (inr (refl, (n, refl)), sym (left_of p))
ends_at (lacks_process (suc n)) (b ∷ bs) left p = absurd (let four = number_of p in omega (arith, four))

at_end : (m : Layout) (rest : List ℕ) → EndsInside m rest ⊎ EndsBeforeCode m rest → Place m rest (fault 2 0)
at_end m rest (inl e) = subst (λ (x : Layout). Place x rest (fault 2 0)) (sym e.2) (inl (e.3, refl))
at_end m rest (inr e) = subst (λ (x : Layout). Place x rest (fault 2 0)) (sym e.1.1) (subst (λ (x : List ℕ). Place (lacks_process (suc e.1.0)) x (fault 2 0)) (sym e.0) refl)

pub ends_inside_are_i2 : EndsInsideAreI2
ends_inside_are_i2 bytes offset are = (there, back) where
  there : IsFileFault bytes 2 offset → EndsInField bytes × (offset ≡ length bytes)
  there h =
      let s = stands bytes 2 offset (λ e. omega (arith, e)) (λ e. omega (arith, e)) h in
      let at = s.3 in
      let ends = ends_at at.at at.rest s.0 at.place in
      let place = s.2 in
      let none = ends.1 in
      (record { few = s.1; l = at.at; rest = at.rest; reaches = at.reaches; ends = ends.0 }, omega (arith, place, none))

  back : EndsInField bytes × (offset ≡ length bytes) → IsFileFault bytes 2 offset
  back h =
      let e = h.0 in
      let place = h.1 in
      stood bytes 2 0 offset are (λ e. omega (arith, e)) e.few (omega (arith, place)) e.l e.rest e.reaches (at_end e.l e.rest e.ends)

-- ---- I4 to I8

module _ (bytes : List ℕ) (number offset : ℕ) (low : 4 ≤ number) where
  stands_at : (m : Layout) (rest : List ℕ) (left : ℕ) → offset ≡ length bytes - left → Place m rest (fault number left) → StandsAt m rest bytes number offset
  stands_at done [] left place p = absurd p
  stands_at done (b ∷ bs) left place p = absurd (let three = number_of p in omega (arith, three, low))
  stands_at (field x next) rest left place (inl p) = absurd (let two = number_of p.1 in omega (arith, two, low))
  stands_at (field x next) rest left place (inr w) =
      inl (
        record { f = x; next = next; is = refl; value = w.value; more = w.more; bytes_are = w.are; long = w.long; wrong = subst (λ n. Wrong x w.value n) (number_of w.is) w.wrong },
        place ∙ ap (λ n. length bytes - n) (sym (left_of w.is)),
      )
  stands_at (rule r back next) rest left place p =
      inr (inl (back, record { r = r; next = next; is = refl; breaks = subst (λ n. Breaks r n) (number_of p.is) p.breaks }, place ∙ ap (λ n. length bytes - n) (sym (left_of p.is))))
  stands_at (lacks_process zero) [] left place p = inr (inr (sym (number_of p), refl, place ∙ ap (λ n. length bytes - n) (sym (left_of p))))
  stands_at (lacks_process zero) (b ∷ bs) left place p = absurd (let three = number_of p in omega (arith, three, low))
  stands_at (lacks_process (suc n)) [] left place p = absurd (let two = number_of p in omega (arith, two, low))
  stands_at (lacks_process (suc n)) (b ∷ bs) left place p = inr (inr (sym (number_of p), (n, refl), place ∙ ap (λ n. length bytes - n) (sym (left_of p))))

lacks_at : (m : Layout) (rest : List ℕ) → LacksProcess m rest → Place m rest (fault 4 (length rest))
lacks_at m [] is = subst (λ (x : Layout). Place x [] (fault 4 0)) (sym is) refl
lacks_at m (b ∷ bs) is = subst (λ (x : Layout). Place x (b ∷ bs) (fault 4 (length (b ∷ bs)))) (sym is.1) refl

pub wrong_fields_are_told : WrongFieldsAreTold
wrong_fields_are_told bytes number offset are low high = (there, back) where
  there : IsFileFault bytes number offset → IsWrongAt bytes number offset
  there h =
      let s = stands bytes number offset (λ e. omega (arith, e, low)) (λ e. omega (arith, e, high)) h in
      let at = s.3 in
      record { few = s.1; l = at.at; rest = at.rest; reaches = at.reaches; stands = stands_at bytes number offset low at.at at.rest s.0 s.2 at.place }

  by : length bytes ≤ f.longest → (m : Layout) (rest : List ℕ) → Reaches l.image bytes m rest → StandsAt m rest bytes number offset → IsFileFault bytes number offset
  by few m rest reaches (inl w) =
      let x = w.0 in
      let at : Place m rest (fault number (length rest)) = subst (λ (y : Layout). Place y rest (fault number (length rest))) (sym x.is) (inr (record { value = x.value; more = x.more; are = x.bytes_are; long = x.long; number = number; wrong = x.wrong; is = refl })) in
      stood bytes number (length rest) offset are (λ e. omega (arith, e, low)) few w.1 m rest reaches at
  by few m rest reaches (inr (inl w)) =
      let x = w.1 in
      let at : Place m rest (fault number (w.0 + length rest)) = subst (λ (y : Layout). Place y rest (fault number (w.0 + length rest))) (sym x.is) (record { number = number; breaks = x.breaks; is = refl }) in
      stood bytes number (w.0 + length rest) offset are (λ e. omega (arith, e, low)) few w.2 m rest reaches at
  by few m rest reaches (inr (inr w)) =
      let at : Place m rest (fault number (length rest)) = subst (λ n. Place m rest (fault n (length rest))) (sym w.0) (lacks_at m rest w.1) in
      stood bytes number (length rest) offset are (λ e. omega (arith, e, low)) few w.2 m rest reaches at

  back : IsWrongAt bytes number offset → IsFileFault bytes number offset
  back w = by w.few w.l w.rest w.reaches w.stands
