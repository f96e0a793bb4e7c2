-- The faults of a file by their numbers.
use Rattle.std.proofs.Common.{◌≡◌, ◌⊎◌, inl, inr, ◌≤◌, ◌<◌, ◌-◌, ◌++◌, ℕ, zero, suc, true, List, [], ◌∷◌, length, Ok, Err, refl, sym, ap, ◌∙◌, arith}
use Rattle.std.specs.Prelude.{codes}
use Rattle.std.proofs.lemmas.Bool.{eqb-false}
use Rattle.image.specs.Bytes.{Version}
use Rattle.image_format.specs.declared.fault.ByteFault.{ByteFault}
use Rattle.image_format.specs.Format.{fault}
use Rattle.image_reader.specs.File as f
use Rattle.image_reader.specs.Answer.{HasFault}
use Rattle.image_format.specs.FormatLaw.{AreBytes}
use Rattle.image_reader_law.specs.Faults as s
use Rattle.image_reader_law.specs.Faults.{pair, IsFileFault}
use Rattle.image_reader_law.specs.ImageFaults as l
use Rattle.image_reader_law.proofs.Made.{heard}
use Rattle.image_reader_law.proofs.Known.{Inner}
use Rattle.image_reader_law.proofs.Chain.{Failure, Unused, in_letters, in_version, in_content, no_process, image_fails}
use Rattle.image_reader_law.proofs.Front.{Letters, Other, letters_fail, version_fails}
use Rattle.image_reader_law.proofs.ImageFaultsFiles.{FileFailure, too_long, by_format, behind, file_failed, at_place, is_told}
use Rattle.image_reader_law.proofs.ImageFaultsWhole.{image_made}

-- ---- by the format

-- an event is of no process, there is no code, and there are more bytes
pub record More (version : Version) (bytes : List ℕ) (e : ByteFault) : Type 0 where
  pub unused : Unused version bytes e
  pub count : unused.counts.code ≡ 0
  pub b : ℕ
  pub more : List ℕ
  pub rest : unused.rest ≡ b ∷ more
  pub fault_is : fault 3 (length (b ∷ more)) ≡ e

pub data Kind (bytes : List ℕ) (e : ByteFault) : Type 0 where
  at_end : e.number ≡ 2 → e.left ≡ 0 → Kind bytes e
  letters : Letters bytes e → Kind bytes e
  versions : (rest : List ℕ) → bytes ≡ codes "RTEU" ++ rest → Other rest e → Kind bytes e
  inner : 4 ≤ e.number → e.number ≤ 8 → Kind bytes e
  trailing : (version : Version) (rest : List ℕ) → bytes ≡ codes "RTEU" ++ (f.version_format.write version ++ rest) → f.version_format.is version ≡ true → More version rest e → Kind bytes e

pub number_of : {d e : ByteFault} → d ≡ e → d.number ≡ e.number
number_of same = ap (λ (x : ByteFault). x.number) same

pub left_of : {d e : ByteFault} → d ≡ e → d.left ≡ e.left
left_of same = ap (λ (x : ByteFault). x.left) same

inner_kind : (bytes : List ℕ) (e : ByteFault) → Inner e → Kind bytes e
inner_kind bytes e (inl end) = at_end end.0 end.1
inner_kind bytes e (inr range) = inner range.0 range.1

unused_kind : (bytes : List ℕ) (e : ByteFault) (version : Version) (rest : List ℕ) → bytes ≡ codes "RTEU" ++ (f.version_format.write version ++ rest) → f.version_format.is version ≡ true → Unused version rest e → Kind bytes e
unused_kind bytes e version rest all in_range u = by u.counts.code u.rest refl refl (u.fault_is) where
  by : (count : ℕ) (left : List ℕ) → u.counts.code ≡ count → u.rest ≡ left → fault (f.unused_fault count left) (length left) ≡ e → Kind bytes e
  by zero [] code is h = inner (omega (arith, number_of h)) (omega (arith, number_of h))
  by zero (b ∷ bs) code is h = trailing version rest all in_range (record { unused = u; count = code; b = b; more = bs; rest = is; fault_is = h })
  by (suc n) [] code is h = at_end (sym (number_of h)) (sym (left_of h))
  by (suc n) (b ∷ bs) code is h = inner (omega (arith, number_of h)) (omega (arith, number_of h))

pub kind : (bytes : List ℕ) (e : ByteFault) → AreBytes bytes → f.image_format.read bytes ≡ Err e → Kind bytes e
kind bytes e are h = by (image_fails bytes e are h) where
  front : (fault 2 0 ≡ e) ⊎ Letters bytes e → Kind bytes e
  front (inl end) = at_end (sym (number_of end)) (sym (left_of end))
  front (inr other) = letters other

  next : (rest : List ℕ) → bytes ≡ codes "RTEU" ++ rest → (fault 2 0 ≡ e) ⊎ Other rest e → Kind bytes e
  next rest all (inl end) = at_end (sym (number_of end)) (sym (left_of end))
  next rest all (inr other) = versions rest all other

  by : Failure bytes e → Kind bytes e
  by (in_letters h) = front (letters_fail bytes e h)
  by (in_version rest ok all h) = next rest all (version_fails rest e h)
  by (in_content range) = inner_kind bytes e range
  by (no_process version rest all in_range unused) = unused_kind bytes e version rest all in_range unused

-- ---- of a whole file

pub data FileKind (bytes : List ℕ) (number offset : ℕ) : Type 0 where
  is_long : f.longest < length bytes → number ≡ 9 → offset ≡ f.longest → FileKind bytes number offset
  is_kind : length bytes ≤ f.longest → (left : ℕ) → offset ≡ length bytes - left → Kind bytes (fault number left) → FileKind bytes number offset
  is_behind : length bytes ≤ f.longest → (x : Version × f.Parts) (b : ℕ) (more : List ℕ) → f.image_format.read bytes ≡ Ok (x, b ∷ more) → number ≡ 3 → offset ≡ length bytes - length (b ∷ more) → FileKind bytes number offset

pub file_kind : (bytes : List ℕ) (number offset : ℕ) → AreBytes bytes → IsFileFault bytes number offset → FileKind bytes number offset
file_kind bytes number offset are h = by (is_told bytes number offset h) where
  by_left : (left : ℕ) → offset ≡ length bytes - left → FileFailure bytes (fault number left) → FileKind bytes number offset
  by_left left place (too_long long same) = let l : length bytes - f.longest ≡ left = left_of same in is_long long (sym (number_of same)) (omega (arith, long, place, l))
  by_left left place (by_format few is) = is_kind few left place (kind bytes (fault number left) are is)
  by_left left place (behind few x b more is same) = is_behind few x b more is (sym (number_of same)) (place ∙ ap (λ n. length bytes - n) (sym (left_of same)))

  by : HasFault bytes number offset → FileKind bytes number offset
  by told = by_left told.left told.place (file_failed bytes (fault number told.left) told.is_read)

-- a fault by the format is one of the file
pub of_file : (bytes : List ℕ) (number left offset : ℕ) → AreBytes bytes → length bytes ≤ f.longest → f.image_format.read bytes ≡ Err (fault number left) → length bytes - left ≡ offset → IsFileFault bytes number offset
of_file bytes number left offset are few is place = at_place bytes number offset number (length bytes - left) refl place (s.in_image few (heard (pair s.version s.parts) f.image_format image_made bytes are (fault number left) is))

-- ---- I9

no_nine : (bytes : List ℕ) (left : ℕ) → Kind bytes (fault 9 left) → ⊥
no_nine bytes left (at_end number zero') = cc
no_nine bytes left (letters other) = absurd (eqb-false 1 9 refl (number_of other.fault_is))
no_nine bytes left (versions rest all other) = absurd (eqb-false 1 9 refl (number_of other.fault_is))
no_nine bytes left (inner low high) = omega (arith, high)
no_nine bytes left (trailing version rest all in_range m) = absurd (eqb-false 3 9 refl (number_of m.fault_is))

pub nine : l.TooManyBytesAreI9
nine bytes offset are = ((λ h. by (file_kind bytes 9 offset are h)), back) where
  by : FileKind bytes 9 offset → (8388608 < length bytes) × (offset ≡ 8388608)
  by (is_long long number place) = (long, place)
  by (is_kind few left place k) = absurd (no_nine bytes left k)
  by (is_behind few x b bs is number place) = cc

  back : (8388608 < length bytes) × (offset ≡ 8388608) → IsFileFault bytes 9 offset
  back h = at_place bytes 9 offset 9 f.longest refl (sym h.1) (s.is_long h.0)

-- ---- I2

pub two : l.I2StandsAtTheEnd
two bytes offset are h = by (file_kind bytes 2 offset are h) where
  of : (left : ℕ) → offset ≡ length bytes - left → Kind bytes (fault 2 left) → offset ≡ length bytes
  of left place (at_end number zero') = omega (arith, place, zero')
  of left place (letters other) = absurd (eqb-false 1 2 refl (number_of other.fault_is))
  of left place (versions rest all other) = absurd (eqb-false 1 2 refl (number_of other.fault_is))
  of left place (inner low high) = absurd (omega (arith, low))
  of left place (trailing version rest all in_range m) = absurd (eqb-false 3 2 refl (number_of m.fault_is))

  by : FileKind bytes 2 offset → offset ≡ length bytes
  by (is_long long number place) = cc
  by (is_kind few left place k) = of left place k
  by (is_behind few x b bs is number place) = cc
