-- The version of a file stands in its sixth byte.
use Rattle.std.proofs.Common.{◌<◌, ◌≡◌, ℕ, suc, List, [], ◌∷◌, Option, Some, None, get_or, refl, sym, ap, ◌∙◌, arith}
use Rattle.std.specs.Prelude.{slice_get}
use Rattle.image_format.specs.FormatLaw.{AreBytes}
use Rattle.image.specs.Bytes.{Version, First, Second, bytes_of}
use Rattle.image.specs.Named.{NamedImage}
use Rattle.image.specs.Raw.{named_of}
use Rattle.image.specs.declared.raw.RawImage.{RawImage}
use Rattle.image_reader.specs.Answer.{Holds, parts_of}
use Rattle.image_reader_law.specs.ImageSound.{ImagesReadAreWritten}

first_is_1 : (named : NamedImage) → slice_get (bytes_of First named) 5 ≡ Some 1
unfolding bytes_of
first_is_1 named = refl

abbrev number : Option ℕ → ℕ
number (Some n) = n
number None = 0

of_version : (bytes : List ℕ) (version : Version) (named : NamedImage) → bytes ≡ bytes_of version named → slice_get bytes 5 ≡ Some 2 → bytes ≡ bytes_of Second named
of_version bytes Second named are two = are
of_version bytes First named are two =
    let one : slice_get bytes 5 ≡ Some 1 = ap (λ (all : List ℕ). slice_get all 5) are ∙ first_is_1 named in
    let same : 2 ≡ 1 = ap number (sym two ∙ one) in
    absurd (omega (arith, same))

pub second_is : ImagesReadAreWritten → (bytes : List ℕ) (raw : RawImage) → AreBytes bytes → Holds bytes raw → slice_get bytes 5 ≡ Some 2 → bytes ≡ bytes_of Second (named_of raw)
second_is law bytes raw are holds two =
    of_version bytes holds.version (named_of raw) (law bytes holds.version (parts_of raw) are holds.is_read ∙ ap (bytes_of holds.version) (sym holds.image)) two

-- bytes are numbers below 256
pub all_below : (bytes : List ℕ) → ((i : ℕ) → get_or bytes i 0 < 256) → AreBytes bytes
all_below [] below = tt
all_below (b ∷ bs) below = (below 0, all_below bs (λ i. below (suc i)))
