-- I1 stands at the letters or at the version of a file, where they are others.
use Rattle.std.proofs.Common.{◌≡◌, ◌⊎◌, inl, inr, ◌≤◌, ◌-◌, ◌+◌, ◌++◌, ℕ, List, [], ◌∷◌, length, take, drop, Ok, Err, refl, sym, ap, ◌∙◌, subst, arith, length-append}
use Rattle.std.specs.Prelude.{codes}
use Rattle.std.proofs.lemmas.Bool.{eqb-false}
use Rattle.std.proofs.lemmas.List.{take-append-drop}
use Rattle.image_format.specs.Format.{fault, both}
use Rattle.image_reader.specs.File as f
use Rattle.image_format.specs.FormatLaw.{AreBytes}
use Rattle.image_format.proofs.Sound.{bytes_after}
use Rattle.image_reader_law.specs.Faults.{IsFileFault, list, natural}
use Rattle.image_reader_law.specs.ImageFaults as l
use Rattle.image_reader_law.proofs.Failed.{stops, goes_on, second_of}
use Rattle.image_reader_law.proofs.Front.{Other, letters_told, version_told}
use Rattle.image_reader_law.proofs.ByNumber.{Kind, at_end, letters, versions, inner, trailing, FileKind, is_long, is_kind, is_behind, file_kind, of_file, number_of, left_of}
use Rattle.image_reader_law.proofs.Sound.{sound}
use Rattle.image_reader_law.proofs.ImageFaultsWhole.{after_magic, magic_made}

-- ---- at the letters

letters_read : (bytes : List ℕ) → 4 ≤ length bytes → (take 4 bytes ≡ codes "RTEU" → ⊥) → f.image_format.read bytes ≡ Err (fault 1 (length bytes))
letters_read bytes there other =
    stops ((both f.magic_format (λ magic. after_magic)).read bytes) (λ x. Ok (x.0.1, x.1)) (fault 1 (length bytes))
    (stops (f.magic_format.read bytes) (second_of (λ magic. after_magic)) (fault 1 (length bytes)) (letters_told bytes there other))

behind_letters : (bytes rest : List ℕ) → bytes ≡ codes "RTEU" ++ rest → length bytes ≡ 4 + length rest
behind_letters bytes rest all = ap (λ (xs : List ℕ). length xs) all ∙ length-append (codes "RTEU") rest

pub at_letters : l.OtherLettersAreI1
at_letters bytes are = ((λ h. by (file_kind bytes 1 0 are h)), back) where
  of : length bytes ≤ f.longest → (left : ℕ) → 0 ≡ length bytes - left → Kind bytes (fault 1 left) → l.OtherLetters bytes
  of few left place (at_end number ends) = cc
  of few left place (letters other) = record { few = few; there = other.there; other = other.other }
  of few left place (versions rest all other) = absurd (omega (arith, place, behind_letters bytes rest all, left_of other.fault_is))
  of few left place (inner low high) = absurd (omega (arith, low))
  of few left place (trailing version rest all in_range m) = absurd (eqb-false 3 1 refl (number_of m.fault_is))

  by : FileKind bytes 1 0 → l.OtherLetters bytes
  by (is_long long number place) = cc
  by (is_kind few left place k) = of few left place k
  by (is_behind few x b bs is number place) = cc

  back : l.OtherLetters bytes → IsFileFault bytes 1 0
  back h = of_file bytes 1 (length bytes) 0 are h.few (letters_read bytes h.there h.other) (omega arith)

-- ---- at the version

version_read : (rest : List ℕ) → AreBytes rest → 2 ≤ length rest → (take 2 rest ≡ 0 ∷ 1 ∷ [] → ⊥) → (take 2 rest ≡ 0 ∷ 2 ∷ [] → ⊥) → f.image_format.read (codes "RTEU" ++ rest) ≡ Err (fault 1 (length rest))
version_read rest are there not_first not_second =
    stops ((both f.magic_format (λ magic. after_magic)).read (codes "RTEU" ++ rest)) (λ x. Ok (x.0.1, x.1)) (fault 1 (length rest))
    (goes_on (f.magic_format.read (codes "RTEU" ++ rest)) (second_of (λ magic. after_magic)) (codes "RTEU", rest) (fault 1 (length rest)) ((sound (list natural) f.magic_format magic_made).again (codes "RTEU") rest refl)
    (stops (after_magic.read rest) (λ y. Ok ((codes "RTEU", y.0), y.1)) (fault 1 (length rest))
    (stops (f.version_format.read rest) (second_of f.parts_format) (fault 1 (length rest)) (version_told rest are there not_first not_second))))

pub at_version : l.OtherVersionsAreI1
at_version bytes are = ((λ h. by (file_kind bytes 1 4 are h)), back) where
  of_version : length bytes ≤ f.longest → (rest : List ℕ) → bytes ≡ codes "RTEU" ++ rest → (left : ℕ) → Other rest (fault 1 left) → l.OtherVersion bytes
  of_version few rest all left other =
      let there : 6 ≤ length bytes = omega (arith, behind_letters bytes rest all, other.there) in
      record {
        few = few;
        letters = ap (λ (xs : List ℕ). take 4 xs) all;
        there = there;
        not_first = λ same. other.not_first (sym (ap (λ (xs : List ℕ). take 2 (drop 4 xs)) all) ∙ same);
        not_second = λ same. other.not_second (sym (ap (λ (xs : List ℕ). take 2 (drop 4 xs)) all) ∙ same);
      }

  of : length bytes ≤ f.longest → (left : ℕ) → 4 ≡ length bytes - left → Kind bytes (fault 1 left) → l.OtherVersion bytes
  of few left place (at_end number ends) = cc
  of few left place (letters other) = absurd (omega (arith, place, left_of other.fault_is))
  of few left place (versions rest all other) = of_version few rest all left other
  of few left place (inner low high) = absurd (omega (arith, low))
  of few left place (trailing version rest all in_range m) = absurd (eqb-false 3 1 refl (number_of m.fault_is))

  by : FileKind bytes 1 4 → l.OtherVersion bytes
  by (is_long long number place) = cc
  by (is_kind few left place k) = of few left place k
  by (is_behind few x b bs is number place) = cc

  back : l.OtherVersion bytes → IsFileFault bytes 1 4
  back h =
      let rest = drop 4 bytes in
      let all : bytes ≡ codes "RTEU" ++ rest = sym (take-append-drop 4 bytes) ∙ ap (λ (front : List ℕ). front ++ rest) h.letters in
      let long : length bytes ≡ 4 + length rest = behind_letters bytes rest all in
      let are_rest : AreBytes rest = bytes_after (codes "RTEU") rest (subst AreBytes all are) in
      of_file bytes 1 (length rest) 4 are h.few (ap f.image_format.read all ∙ version_read rest are_rest (omega (arith, long, h.there)) h.not_first h.not_second) (omega (arith, long))

-- ---- nowhere else

pub in_front : l.I1StandsInFront
in_front bytes offset are h = by (file_kind bytes 1 offset are h) where
  of : (left : ℕ) → offset ≡ length bytes - left → Kind bytes (fault 1 left) → (offset ≡ 0) ⊎ (offset ≡ 4)
  of left place (at_end number ends) = cc
  of left place (letters other) = inl (omega (arith, place, left_of other.fault_is))
  of left place (versions rest all other) = inr (omega (arith, place, behind_letters bytes rest all, left_of other.fault_is))
  of left place (inner low high) = absurd (omega (arith, low))
  of left place (trailing version rest all in_range m) = absurd (eqb-false 3 1 refl (number_of m.fault_is))

  by : FileKind bytes 1 offset → (offset ≡ 0) ⊎ (offset ≡ 4)
  by (is_long long number place) = cc
  by (is_kind few left place k) = of left place k
  by (is_behind few x b bs is number place) = cc
