-- The bytes that are stored of a valid image hold it.
use Rattle.std.proofs.Common.{◌≡◌, ◌-◌, ◌∙◌, ℕ, Bool, true, false, List, [], length, Ok, Err, subst, ap}
use Rattle.std.specs.Prelude.{nat_lt, if◌then◌else◌}
use Rattle.image.specs.Bytes.{Version, Second, bytes_of}
use Rattle.image.specs.Named.{NamedImage}
use Rattle.image_format.specs.Format.{fault}
use Rattle.image_format.specs.FormatLaw.{AreBytes}
use Rattle.image_format.proofs.Alike.{okay}
use Rattle.image_format.proofs.Sound.{came}
use Rattle.image_reader.specs.Answer.{parts_of}
use Rattle.image_reader.specs.File as f
use Rattle.image_reader_law.specs.ImageSound.{ImagesWrittenAreRead}
use Rattle.image_reader_law.proofs.ImageSoundFiles.{ended_is}
use Rattle.image_reader_law.proofs.ImageSoundWhole.{image_sound}
use Rattle.valid_image.specs.Valid.{IsValid}
use Rattle.image_reader_law.specs.Stored.{ImagesReadAreHeldAgain, ValidImagesAreHeld, ValidImagesAreShort}
use Rattle.image_reader_law.proofs.Fitting.{fit, fits}
use Rattle.image_reader_law.proofs.Versions.{fits_again}

pub held : ValidImagesAreShort → ImagesWrittenAreRead → ValidImagesAreHeld
held short law raw whole ranged valid =
    let of_parts : IsValid (f.image_with (parts_of raw)).image = subst (λ (n : NamedImage). IsValid n.image) whole valid in
    record {
      version = Second;
      is_read = ap (λ (n : NamedImage). f.read_file (bytes_of Second n)) whole ∙ law Second (parts_of raw) ranged (short (parts_of raw) ranged of_parts);
      image = whole;
    }

-- what was read has its fields in their ranges
pub ranged : (bytes : List ℕ) (version : Version) (ps : f.Parts) → AreBytes bytes → f.read_file bytes ≡ Ok ((version, ps), []) → f.image_format.is (version, ps) ≡ true
unfolding f.read_file
ranged bytes version ps are is = by (nat_lt f.longest (length bytes)) is where
  by : (b : Bool) → (if b then Err (fault 9 (length bytes - f.longest)) else f.whole_read bytes) ≡ Ok ((version, ps), []) → f.image_format.is (version, ps) ≡ true
  by true e = absurd cc
  by false e =
      let a = came (f.image_format.read bytes) f.ended ((version, ps), []) e in
      let same : a.x ≡ ((version, ps), []) = ended_is a.x ((version, ps), []) a.then_is in
      (image_sound.back bytes ((version, ps), []) are (a.was ∙ ap (λ x. okay x) same)).1

pub again : ValidImagesAreHeld → ImagesReadAreHeldAgain
again law bytes raw are holds valid =
    let ps = parts_of raw in
    law raw holds.image (fit Second ps (fits_again holds.version ps (fits holds.version ps (ranged bytes holds.version ps are holds.is_read)))) valid
