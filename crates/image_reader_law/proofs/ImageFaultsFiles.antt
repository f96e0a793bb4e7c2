-- What reading a whole file tells, and what its bytes have.
use Rattle.std.proofs.Common.{◌≡◌, inl, inr, ◌≤◌, ◌<◌, ◌-◌, ◌+◌, ℕ, Bool, true, false, List, [], ◌∷◌, length, Ok, Err, refl, sym, ap, ◌∙◌, subst, arith, length-append}
use Rattle.std.specs.Prelude.{nat_lt, if◌then◌else◌}
use Rattle.std.proofs.lemmas.Bool.{le-ltb, lt-ltb, ltb-true, ltb-false}
use Rattle.image.specs.Bytes.{Version}
use Rattle.image_format.specs.declared.fault.ByteFault.{ByteFault}
use Rattle.image_format.specs.Format.{Read, fault}
use Rattle.image_reader.specs.File as f
use Rattle.image_reader.specs.Answer.{HasFault}
use Rattle.image_format.specs.FormatLaw.{AreBytes}
use Rattle.image_reader_law.specs.Faults as s
use Rattle.image_reader_law.specs.Faults.{pair, Begins, IsFileFault}
use Rattle.image_reader_law.specs.ImageFaults.{FaultsAreToldExactly, EachFileHasOneFault}
use Rattle.image_reader_law.proofs.Failed.{Failed, failed, stops, goes_on}
use Rattle.image_reader_law.proofs.Told.{told, begins_read}
use Rattle.image_reader_law.proofs.Heard.{read_begins}
use Rattle.image_reader_law.proofs.Made.{heard}
use Rattle.image_reader_law.proofs.ImageFaultsWhole.{image_made}

-- ---- what reading tells

pub data FileFailure (bytes : List ℕ) (e : ByteFault) : Type 0 where
  too_long : f.longest < length bytes → fault 9 (length bytes - f.longest) ≡ e → FileFailure bytes e
  by_format : length bytes ≤ f.longest → f.image_format.read bytes ≡ Err e → FileFailure bytes e
  behind : length bytes ≤ f.longest → (x : Version × f.Parts) (b : ℕ) (more : List ℕ) → f.image_format.read bytes ≡ Ok (x, b ∷ more) → fault 3 (length (b ∷ more)) ≡ e → FileFailure bytes e

not_ended : (bytes : List ℕ) (e : ByteFault) (z : (Version × f.Parts) × List ℕ) → length bytes ≤ f.longest → f.image_format.read bytes ≡ Ok z → f.ended z ≡ Err e → FileFailure bytes e
not_ended bytes e (x, []) few was is = cc
not_ended bytes e (x, b ∷ more) few was is = behind few x b more was (cc)

abbrev pub file_of : (is_long : Bool) → List ℕ → Read (Version × f.Parts)
file_of is_long bytes = if is_long then Err (fault 9 (length bytes - f.longest)) else f.whole_read bytes

pub file_failed : (bytes : List ℕ) (e : ByteFault) → f.read_file bytes ≡ Err e → FileFailure bytes e
unfolding f.read_file
file_failed bytes e h = by (nat_lt f.longest (length bytes)) refl h where
  in_format : length bytes ≤ f.longest → Failed (f.image_format.read bytes) f.ended e → FileFailure bytes e
  in_format few (inl first) = by_format few first
  in_format few (inr second) = not_ended bytes e second.x few second.was second.then_is

  by : (b : Bool) → nat_lt f.longest (length bytes) ≡ b → file_of b bytes ≡ Err e → FileFailure bytes e
  by true test is = too_long (ltb-true f.longest (length bytes) test) (cc)
  by false test is = in_format (ltb-false f.longest (length bytes) test) (failed (f.image_format.read bytes) f.ended e is)

-- ---- what is told is what the bytes have

pub at_place : (bytes : List ℕ) (number offset n p : ℕ) → n ≡ number → p ≡ offset → IsFileFault bytes n p → IsFileFault bytes number offset
at_place bytes number offset n p same place h = subst (λ (m : ℕ). IsFileFault bytes m offset) same (subst (IsFileFault bytes n) place h)

has : (bytes : List ℕ) (number left offset : ℕ) → AreBytes bytes → offset ≡ length bytes - left → FileFailure bytes (fault number left) → IsFileFault bytes number offset
has bytes number left offset are place (too_long long same) =
    let n : 9 ≡ number = ap (λ (d : ByteFault). d.number) same in
    let l : length bytes - f.longest ≡ left = ap (λ (d : ByteFault). d.left) same in
    at_place bytes number offset 9 f.longest n (omega (arith, long, place, l)) (s.is_long long)
has bytes number left offset are place (by_format few is) = at_place bytes number offset number (length bytes - left) refl (sym place) (s.in_image few (heard (pair s.version s.parts) f.image_format image_made bytes are (fault number left) is))
has bytes number left offset are place (behind few x b more is same) =
    let n : 3 ≡ number = ap (λ (d : ByteFault). d.number) same in
    let l : length (b ∷ more) ≡ left = ap (λ (d : ByteFault). d.left) same in
    let begins = read_begins (pair s.version s.parts) f.image_format image_made bytes are (x, b ∷ more) is in
    let long : length bytes ≡ length (f.image_format.write x) + length (b ∷ more) = ap (λ (all : List ℕ). length all) begins.are ∙ length-append (f.image_format.write x) (b ∷ more) in
    at_place bytes number offset 3 (length (f.image_format.write x)) n (omega (arith, long, place, l)) (s.is_behind few begins)

few_read : (bytes : List ℕ) (e : ByteFault) → length bytes ≤ f.longest → f.whole_read bytes ≡ Err e → f.read_file bytes ≡ Err e
unfolding f.read_file
few_read bytes e few h = rw (le-ltb f.longest (length bytes) few) h

long_read : (bytes : List ℕ) → f.longest < length bytes → f.read_file bytes ≡ Err (fault 9 (length bytes - f.longest))
unfolding f.read_file
long_read bytes long = rw (lt-ltb f.longest (length bytes) long) refl

pub is_told : (bytes : List ℕ) (number offset : ℕ) → IsFileFault bytes number offset → HasFault bytes number offset
is_told bytes number offset (s.is_long long) = record { left = length bytes - f.longest; is_read = long_read bytes long; place = omega (arith, long) }
is_told bytes number offset (s.in_image {left = left} few h) = record {
  left = left;
  is_read = few_read bytes (fault number left) few (stops (f.image_format.read bytes) f.ended (fault number left) (told (pair s.version s.parts) f.image_format bytes number left h));
  place = refl;
}
is_told bytes number offset (s.is_behind {image = x} {b = b} {more = more} few begins) = record {
  left = length (b ∷ more);
  is_read = few_read bytes (fault 3 (length (b ∷ more))) few (goes_on (f.image_format.read bytes) f.ended (x, b ∷ more) (fault 3 (length (b ∷ more))) (begins_read (pair s.version s.parts) f.image_format bytes x (b ∷ more) begins) refl);
  place =
      let long : length bytes ≡ length (f.image_format.write x) + length (b ∷ more) = ap (λ (all : List ℕ). length all) begins.are ∙ length-append (f.image_format.write x) (b ∷ more) in
      omega (arith, long);
}

pub told_exactly : FaultsAreToldExactly
told_exactly bytes number offset are = ((λ h. has bytes number h.left offset are h.place (file_failed bytes (fault number h.left) h.is_read)), is_told bytes number offset)

pub one_fault : EachFileHasOneFault
one_fault bytes m n p q first second =
    let a = is_told bytes m p first in
    let b = is_told bytes n q second in
    let same : fault m a.left ≡ fault n b.left = (let both = sym a.is_read ∙ b.is_read in cc) in
    let number : m ≡ n = ap (λ (d : ByteFault). d.number) same in
    let left : a.left ≡ b.left = ap (λ (d : ByteFault). d.left) same in
    (number, a.place ∙ ap (λ k. length bytes - k) left ∙ sym b.place)
