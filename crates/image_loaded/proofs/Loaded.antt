-- What is read, kept and loaded.
use Rattle.std.proofs.Common.{◌≡◌, ◌≤◌, ℕ, List, length, Ok, Err, arith, refl, ap, sym, subst}
use Rattle.std.specs.Prelude.{IsErrAnd, Result}
use Rattle.std.proofs.lemmas.List.{length-map}
use Rattle.image.specs.InRange.{IsInRange}
use Rattle.image.specs.Named.{NamedImage}
use Rattle.image.specs.Raw.{image_of, monitor_of, named_of}
use Rattle.image.specs.declared.raw.RawImage.{RawImage}
use Rattle.image_format.specs.FormatLaw.{AreBytes}
use Rattle.image_reader.specs.Answer.{Holds, Tells}
use Rattle.image_reader.specs.declared.fault.ImageFault.{ImageFault}
use Rattle.image_reader.specs.declared.fault.ImageFault.TheVariants as image
use Rattle.image_reader_law.specs.ImageRanges.{ImagesReadCanBeWritten}
use Rattle.image_reader_law.specs.Stored.{ImagesReadAreHeldAgain}
use Rattle.image_reader_law.specs.ValidLimits.{ImagesReadHaveFewMonitors, ImagesReadHaveLimits}
use Rattle.valid_image.specs.Valid.{HasLimits, IsValid}
use Rattle.loader.specs.Verified.{HasRanges}
use Rattle.image_loaded.specs.Faults.{of_bytes, of_numbers}
use Rattle.image_loaded.specs.Shape.{AreOf, AreOfValid}
use Rattle.image_loaded.specs.Answers.{IsInvalid, IsMisshapen, IsRead, Loads, LoadsShape, Reads, Shapes, Verifies}
use Rattle.image_loaded.specs.declared.fault.ValidFault.{ValidFault}
use Rattle.image_loaded.specs.declared.fault.ValidFault.TheVariants as valid

-- ---- what is read

is_read : (bytes : List ℕ) (raw : RawImage) → ImagesReadHaveLimits → ImagesReadHaveFewMonitors → ImagesReadCanBeWritten → ImagesReadAreHeldAgain → AreBytes bytes → Holds bytes raw → IsRead bytes raw
is_read bytes raw limits monitors written again are held = record {
  held = held;
  ranges = record { limits = limits bytes raw held; monitors = monitors bytes raw held };
  written = written bytes raw held;
  again = again bytes raw are held;
}

pub reads : (bytes : List ℕ) → ImagesReadHaveLimits → ImagesReadHaveFewMonitors → ImagesReadCanBeWritten → ImagesReadAreHeldAgain → AreBytes bytes → (answer : Result RawImage ImageFault) → Tells bytes answer → Reads bytes answer
reads bytes limits monitors written again are (Ok raw) h = is_read bytes raw limits monitors written again are h
reads bytes limits monitors written again are (Err (image.Bad number offset)) h = h
reads bytes limits monitors written again are (Err (image.Memory _)) h = tt

-- the numbers are those that are read
pub are_of : (bytes : List ℕ) (raw : RawImage) → Holds bytes raw → AreOf bytes (named_of raw)
are_of bytes raw held = record { raw = raw; held = held; image = refl }

-- and valid ones
pub are_of_valid : (bytes : List ℕ) (raw : RawImage) → Holds bytes raw → IsValid (image_of raw) → AreOfValid bytes (named_of raw)
are_of_valid bytes raw held valid = record { file = are_of bytes raw held; valid = valid }

-- ---- numbers whose bytes hold their image

module _ (bytes : List ℕ) (raw : RawImage) (are : AreOf bytes (named_of raw)) where
  pub ranges_of : ImagesReadHaveLimits → ImagesReadHaveFewMonitors → HasRanges raw
  ranges_of limits monitors =
      let few : length are.raw.monitors ≤ 64 = monitors bytes are.raw are.held in
      let same : length (image_of raw).monitors ≡ length (image_of are.raw).monitors = ap (λ (n : NamedImage). length n.image.monitors) are.image in
      record {
        limits = subst (λ (n : NamedImage). HasLimits n.image) (sym are.image) (limits bytes are.raw are.held);
        monitors = omega (arith, few, same, length-map raw.monitors monitor_of, length-map are.raw.monitors monitor_of);
      }

  pub written_of : ImagesReadCanBeWritten → IsInRange (named_of raw)
  written_of written = subst IsInRange (sym are.image) (written bytes are.raw are.held)

-- ---- images

pub loads_image : (bytes : List ℕ) (raw : RawImage) (image : NamedImage) → IsRead bytes raw → Verifies raw (Ok image) → AreOfValid bytes image
loads_image bytes raw image read h = subst (AreOfValid bytes) (sym h.0) (are_of_valid bytes raw read.held h.1)

pub loads_fault : (bytes : List ℕ) (raw : RawImage) (why : ValidFault) → IsRead bytes raw → Verifies raw (Err why) → Loads bytes (Err (of_numbers why))
loads_fault bytes raw (valid.Invalid same found) read h =
    subst (λ (x : RawImage). IsInvalid bytes x found) (sym h.0) (let is : IsInvalid bytes raw found = record { held = read.held; first = h.1 } in is)
loads_fault bytes raw (valid.Memory _) read h = tt

pub unread : (bytes : List ℕ) (why : ImageFault) → Reads bytes (Err why) → Loads bytes (Err (of_bytes why))
unread bytes (image.Bad number offset) h = h
unread bytes (image.Memory _) h = tt

-- ---- shapes

pub loads_shape : (bytes : List ℕ) (raw : RawImage) (shape : NamedImage) → IsRead bytes raw → Shapes raw (Ok shape) → LoadsShape bytes (Ok shape)
loads_shape bytes raw shape read h = (subst (AreOf bytes) (sym h.0) (are_of bytes raw read.held), h.1)

pub misshapen : (bytes : List ℕ) (raw : RawImage) (why : ValidFault) → IsRead bytes raw → Shapes raw (Err why) → LoadsShape bytes (Err (of_numbers why))
misshapen bytes raw (valid.Invalid same found) read h =
    subst (λ (x : RawImage). IsMisshapen bytes x found) (sym h.0)
    (let is : IsMisshapen bytes raw found = record { invalid = record { held = read.held; first = h.1 }; before = h.2 } in is)
misshapen bytes raw (valid.Memory _) read h = tt

pub unread_shape : (bytes : List ℕ) (why : ImageFault) → Reads bytes (Err why) → LoadsShape bytes (Err (of_bytes why))
unread_shape bytes (image.Bad number offset) h = h
unread_shape bytes (image.Memory _) h = tt

-- ---- an error that a question mark gave

pub of_residual : {A E : Type 0} (P : Result A E → Type 0) (made : Result A E) (why : E) → IsErrAnd made (λ e. e ≡ why) → P (Err why) → P made
of_residual P (Ok x) why is h = absurd is
of_residual P (Err e) why is h = subst (λ (w : _). P (Err w)) (sym is) h
